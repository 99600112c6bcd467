use Rattle.std.proofs.Common.{◌∙◌}
use Rattle.std.specs.Prelude.{Some, None}
use Rattle.stimulus.specs.Stimulus.{design_ports}
use Rattle.stimulus.proofs.Sets.{set_found}
use Rattle.stimulus.proofs.acts.set_act.Goals as goal

pub returns-in_default-find_input : goal.returns-in_default-find_input
returns-in_default-find_input c =
    set_found (design_ports c.args.design.now) c.args.number c.args.name.now c.args.hex.now None c.in_default-find_input.ensures.place c.in-Some.value c.in-Some.ensures.0 c.in-Some.ensures.1

pub returns : goal.returns
returns c =
    c.set_input.ensures
    ∙ set_found (design_ports c.args.design.now) c.args.number c.args.name.now c.args.hex.now (Some c.in-Some-find_input.place) c.in-Some-find_input.ensures.place c.in-Some.value c.in-Some.ensures.0 c.in-Some.ensures.1
