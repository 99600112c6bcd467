use Rattle.std.proofs.Common.{◌≡◌, ◌++◌, length}
use Rattle.rtl_pieces.specs.Ranges.{left}
use Rattle.rtl_pieces.proofs.minus.add_left.Given as goal

abbrev pub invariant-loop-rest : goal.invariant-loop-rest
invariant-loop-rest l = l.out.items ++ left l.from l.to l.rest ≡ l.initial.out.items ++ left l.fn.range.from l.fn.range.to l.others

abbrev pub decreases-loop-rest : goal.decreases-loop-rest
decreases-loop-rest l = length l.rest
