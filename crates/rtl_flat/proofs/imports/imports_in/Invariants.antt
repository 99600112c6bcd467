use Rattle.std.proofs.Common.{◌≡◌, map, take}
use Rattle.std.specs.List.{flat_map}
use Rattle.rtl_flat.specs.Imports.{description_imports}
use Rattle.rtl_flat.proofs.imports.imports_in.Given as goal

abbrev pub invariant-loop-description : goal.invariant-loop-description
invariant-loop-description l = map (λ x. x.now) l.list.items ≡ flat_map description_imports (take l.description-index l.tree.descriptions)
