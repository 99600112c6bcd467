use Rattle.std.proofs.Common.{◌≡◌, length}
use Rattle.rtl_pieces.specs.Owned.{sweep}
use Rattle.rtl_pieces.proofs.shared.first_shared.Given as goal

abbrev pub invariant-loop-rest : goal.invariant-loop-rest
invariant-loop-rest l = sweep l.reach l.proc l.rest ≡ sweep 0 0 l.sorted

abbrev pub decreases-loop-rest : goal.decreases-loop-rest
decreases-loop-rest l = length l.rest
