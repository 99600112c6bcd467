use Rattle.std.proofs.Common.{◌≡◌, sym, ap, ◌∙◌}
use Rattle.std.specs.Prelude.{Some, Ok}
use Rattle.vs_base.specs.Number.{Number}
use Rattle.vs_base.specs.declared.act.Act.TheVariants.{Set}
use Rattle.stimulus.specs.Stimulus.{design_ports}
use Rattle.stimulus.proofs.Sets.{too_wide, is_set}
use Rattle.stimulus.proofs.acts.set_input.Goals as goal

pub returns-then-value : goal.returns-then-value
returns-then-value c =
    too_wide (design_ports c.args.design.now) c.args.number c.args.place c.port_width.result c.args.value c.port_width.ensures.value
    (λ h. c.if-value.true (c.value.ensures ∙ ap (λ (n : Number). n.value) c.new-bits.ensures ∙ h))

pub returns : goal.returns
returns c =
    let whole : c.new-bits.result.value ≡ c.args.value = cc in
    ap (λ (n : Number). Ok (Some (Set c.args.place n))) c.new-bits.ensures
    ∙ is_set (design_ports c.args.design.now) c.args.number c.args.place c.port_width.result c.args.value c.port_width.ensures.value (sym (ap (λ (n : Number). n.value) c.new-bits.ensures) ∙ whole)
