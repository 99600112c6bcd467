use Rattle.std.proofs.Common.{◌≡◌, ◌++◌, length}
use Rattle.rtl_pieces.specs.Ranges.{empty, merged}
use Rattle.rtl_pieces.proofs.normal.merged.Given as goal

abbrev pub invariant-loop-rest : goal.invariant-loop-rest
invariant-loop-rest l = l.out.items ++ merged l.last l.rest ≡ merged empty l.sorted

abbrev pub decreases-loop-rest : goal.decreases-loop-rest
decreases-loop-rest l = length l.rest
