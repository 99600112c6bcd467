use Rattle.std.proofs.Common.{◌≡◌, ◌++◌, length}
use Rattle.rtl_pieces.specs.Ranges.{minus}
use Rattle.rtl_pieces.proofs.minus.minus.Given as goal

abbrev pub invariant-loop-rest : goal.invariant-loop-rest
invariant-loop-rest l = l.out.items ++ minus l.rest l.left ≡ minus l.ranges l.others

abbrev pub decreases-loop-rest : goal.decreases-loop-rest
decreases-loop-rest l = length l.rest
