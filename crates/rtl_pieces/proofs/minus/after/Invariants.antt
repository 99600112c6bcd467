use Rattle.std.proofs.Common.{◌≡◌, length}
use Rattle.rtl_pieces.specs.Ranges.{after}
use Rattle.rtl_pieces.proofs.minus.after.Given as goal

abbrev pub invariant-loop-rest : goal.invariant-loop-rest
invariant-loop-rest l = after l.place l.rest ≡ after l.place l.ranges

abbrev pub decreases-loop-rest : goal.decreases-loop-rest
decreases-loop-rest l = length l.rest
