use Rattle.std.proofs.Common.{◌≡◌, map, take}
use Rattle.std.specs.Prelude.{unwrap_or}
use Rattle.model_build.specs.declared.import.ImportUse.{ImportUse}
use Rattle.model_build.proofs.import.ids_of.Given as goal

abbrev pub invariant-loop-used : goal.invariant-loop-used
invariant-loop-used l = l.list ≡ map (λ (u : ImportUse). unwrap_or u.id 0) (take l.used-index l.uses)
