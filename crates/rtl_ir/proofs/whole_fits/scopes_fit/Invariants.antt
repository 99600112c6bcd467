use Rattle.std.proofs.Common.{◌≡◌, ◌+◌, length}
use Rattle.rtl_ir.specs.WithinDesign.{parents_first}
use Rattle.rtl_ir.proofs.whole_fits.scopes_fit.Given as goal

abbrev pub invariant-loop-rest : goal.invariant-loop-rest
invariant-loop-rest l = (parents_first l.number l.rest ≡ parents_first 0 l.scopes) × (l.number + length l.rest ≡ length l.scopes)

abbrev pub decreases-loop-rest : goal.decreases-loop-rest
decreases-loop-rest l = length l.rest
