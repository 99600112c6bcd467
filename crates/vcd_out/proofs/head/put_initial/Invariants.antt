use Rattle.std.proofs.Common.{◌≡◌, ◌+◌, ◌++◌, length}
use Rattle.vcd_out.specs.Header.{initial_values}
use Rattle.vcd_out.proofs.head.put_initial.Given as goal

abbrev pub invariant-places : goal.invariant-places
invariant-places l = record {
  written : l.text.items ++ initial_values l.vars l.k l.rest ≡ l.fn.text.items ++ initial_values l.vars 0 l.order;
  count : l.k + length l.rest ≡ length l.order;
}

abbrev pub decreases-places : goal.decreases-places
decreases-places l = length l.rest
