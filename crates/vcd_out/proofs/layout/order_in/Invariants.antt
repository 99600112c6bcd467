use Rattle.std.proofs.Common.{◌≡◌, ◌++◌, length}
use Rattle.vcd_out.specs.Layout.{order_in}
use Rattle.vcd_out.proofs.layout.order_in.Given as goal

abbrev pub invariant-lines : goal.invariant-lines
invariant-lines l = l.order.items ++ order_in l.rest ≡ order_in l.lines

abbrev pub decreases-lines : goal.decreases-lines
decreases-lines l = length l.rest
