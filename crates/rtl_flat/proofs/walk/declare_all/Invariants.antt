use Rattle.std.proofs.Common.{◌≡◌, length}
use Rattle.rtl_flat.specs.Heads.{with_constants}
use Rattle.rtl_flat.proofs.walk.declare_all.Given as goal

abbrev pub invariant-loop-rest : goal.invariant-loop-rest
invariant-loop-rest l = with_constants l.rest l.table ≡ with_constants l.constants l.fn.table

abbrev pub decreases-loop-rest : goal.decreases-loop-rest
decreases-loop-rest l = length l.rest
