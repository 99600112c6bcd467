use Rattle.std.proofs.Common.{ap, subst, sym, ◌∙◌}
use Rattle.sv_pp.specs.Active.{skipped_step}
use Rattle.sv_pp.specs.Directive.{role_of}
use Rattle.sv_pp.specs.Shown.{Takes}
use Rattle.sv_pp.proofs.file.skip_directive.Goals as goal

pub returns-in-Else : goal.returns-in-Else
returns-in-Else c =
    let a = c.args in
    subst (λ role. Takes a.names.now a.place.now a.going.now c.turn.new.place c.turn.new.going c.turn.result (λ s. skipped_step a.names.now s role a.token.now a.rest.now)) (sym c.in-Else.is ∙ c.role_of.ensures ∙ ap role_of c.named_by.ensures) (c.turn.ensures a.names.now)

pub returns-in-Endif : goal.returns-in-Endif
returns-in-Endif c =
    let a = c.args in
    subst (λ role. Takes a.names.now a.place.now a.going.now c.close.new.place c.close.new.going c.close.result (λ s. skipped_step a.names.now s role a.token.now a.rest.now)) (sym c.in-Endif.is ∙ c.role_of.ensures ∙ ap role_of c.named_by.ensures) (c.close.ensures a.names.now)
