use Rattle.std.proofs.Common.{◌≡◌, ◌++◌, length}
use Rattle.rtl_pieces.specs.Ranges.{below}
use Rattle.rtl_pieces.proofs.normal.below.Given as goal

abbrev pub invariant-loop-rest : goal.invariant-loop-rest
invariant-loop-rest l = l.out.items ++ below l.end l.rest ≡ below l.end l.ranges

abbrev pub decreases-loop-rest : goal.decreases-loop-rest
decreases-loop-rest l = length l.rest
