use Rattle.std.proofs.Common.{◌≡◌, map, take}
use Rattle.model_build.specs.declared.import.ImportUse.{ImportUse}
use Rattle.model_build.proofs.import.deemed_of.Given as goal

abbrev pub invariant-loop-used : goal.invariant-loop-used
invariant-loop-used l = l.list ≡ map (λ (u : ImportUse). u.deemed) (take l.used-index l.uses)
