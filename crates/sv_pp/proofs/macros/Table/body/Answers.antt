use Rattle.std.proofs.Common.{◌≡◌, arith, ap, ◌∙◌, slice_get, Some}
use Rattle.std.proofs.lemmas.Option.{slice_get-get_or}
use Rattle.sv_pp.proofs.Tables.{found_body}
use Rattle.sv_pp.proofs.macros.Table.body.Goals as goal

pub returns : goal.returns
returns c macros kept =
    let found : slice_get c.self.inside.bodies.items c.in-Some.id.0 ≡ Some (Some c.in-Some-Some.body) = grind (arith, slice_get-get_or c.deref.result.now c.in-Some.id.0 c.in-Some-Some.field-0.now, ap (λ xs. slice_get xs c.in-Some.id.0) c.deref.ensures.value, c.in-Some-Some.ensures.lookup, c.in-Some-Some.is, c.in-Some-Some.field-0-is, c.in-Some-Some.body-is, c.deref.ensures.value) in
    ap Some c.as_slice.ensures.value ∙ found_body (λ b. b.items) c.args.names.now c.self.inside.bodies.items c.args.self.now macros c.in-Some.id.0 c.args.name.now c.in-Some-Some.body kept c.self.view_is c.in-Some.ensures found
