use Rattle.std.proofs.Common.{◌≡◌, ◌+◌, ◌++◌, not, length}
use Rattle.order_levels.specs.Serial.{numbers_from, comb_procs}
use Rattle.model_build.proofs.settle.combs_of.Given as goal

abbrev pub invariant-procs : goal.invariant-procs
invariant-procs l = record {
  listed : l.combs.items ++ numbers_from l.number not l.rest ≡ comb_procs l.clocked;
  count : l.number + length l.rest ≡ length l.clocked;
}

abbrev pub decreases-procs : goal.decreases-procs
decreases-procs l = length l.rest
