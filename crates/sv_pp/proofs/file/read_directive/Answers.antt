use Rattle.std.proofs.Common.{ap, subst, sym, ◌∙◌}
use Rattle.sv_pp.specs.Active.{directive_step}
use Rattle.sv_pp.specs.Directive.{role_of}
use Rattle.sv_pp.specs.Shown.{Takes}
use Rattle.sv_pp.proofs.file.read_directive.Goals as goal

pub returns-in-Define : goal.returns-in-Define
returns-in-Define c =
    let a = c.args in
    subst (λ role. Takes a.names.now a.place.now a.going.now c.define.new.place c.define.new.going c.define.result (λ s. directive_step a.names.now s role a.token.now a.rest.now)) (sym c.in-Define.is ∙ c.role_of.ensures ∙ ap role_of c.named_by.ensures) c.define.ensures

pub returns-in-Undef : goal.returns-in-Undef
returns-in-Undef c =
    let a = c.args in
    subst (λ role. Takes a.names.now a.place.now a.going.now c.undef.new.place c.undef.new.going c.undef.result (λ s. directive_step a.names.now s role a.token.now a.rest.now)) (sym c.in-Undef.is ∙ c.role_of.ensures ∙ ap role_of c.named_by.ensures) (c.undef.ensures a.names.now c.requires.named)

pub returns-in-Endif : goal.returns-in-Endif
returns-in-Endif c =
    let a = c.args in
    subst (λ role. Takes a.names.now a.place.now a.going.now c.close.new.place c.close.new.going c.close.result (λ s. directive_step a.names.now s role a.token.now a.rest.now)) (sym c.in-Endif.is ∙ c.role_of.ensures ∙ ap role_of c.named_by.ensures) (c.close.ensures a.names.now)
