use Rattle.std.proofs.Common.{◌≡◌, ◌+◌, ◌++◌, false, length}
use Rattle.std.specs.Prelude.{slice_index_or}
use Rattle.model_build.specs.Imports.{uses_from}
use Rattle.model_build.proofs.import.list_uses.Given as goal

abbrev pub invariant-imports : goal.invariant-imports
invariant-imports g l = record {
  listed : l.uses.items ++ uses_from (g.H.Host.id_of (g.H.Host.fixed l.host)) (g.H.Host.by_args (g.H.Host.fixed l.host)) l.mode (λ k. slice_index_or l.called k false) l.number l.rest
      ≡ uses_from (g.H.Host.id_of (g.H.Host.fixed l.host)) (g.H.Host.by_args (g.H.Host.fixed l.host)) l.mode (λ k. slice_index_or l.called k false) 0 l.imports;
  count : l.number + length l.rest ≡ length l.imports;
}

abbrev pub decreases-imports : goal.decreases-imports
decreases-imports g l = length l.rest
