use Rattle.std.proofs.Common.{◌≡◌, map, take}
use Rattle.rtl_flat.specs.Imports.{told, told_of}
use Rattle.rtl_flat.proofs.imports.flat_imports.Given as goal

abbrev pub invariant-loop-import : goal.invariant-loop-import
invariant-loop-import l = map told l.all ≡ map (λ x. told_of l.names x.now) (take l.import-index l.list)
