use Rattle.std.proofs.Common.{◌≡◌, map, sym, ap, ◌∙◌}
use Rattle.std.proofs.lemmas.Result.{IfOk-weaker}
use Rattle.std.proofs.lemmas.Simd.{map-map}
use Rattle.rtl_flat.specs.Imports.{AreImports, told, told_of}
use Rattle.rtl_flat.proofs.design.flattened.Goals as goal

pub returns-clause-imports : goal.returns-clause-imports
returns-clause-imports c =
    IfOk-weaker c.of_imports.result (λ d. map told d.imports ≡ map (λ x. told_of c.args.names.now x.now) c.in_ok-texts.texts.items)
    (λ d. AreImports c.args.names.now c.args.tree.now d.imports)
    (λ d is. is ∙ sym (map-map (told_of c.args.names.now) (λ x. x.now) c.in_ok-texts.texts.items) ∙ ap (map (told_of c.args.names.now)) c.in_ok-texts.ensures)
    (rw c.as_slice.ensures.value at c.of_imports.ensures.imports)
