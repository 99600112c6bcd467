use Rattle.std.specs.Prelude.{Some, None}
use Rattle.stimulus.specs.Stimulus.{design_ports}
use Rattle.stimulus.proofs.Sets.{clock_found}
use Rattle.stimulus.proofs.acts.clock_act.Goals as goal

pub returns-in_default-find_input : goal.returns-in_default-find_input
returns-in_default-find_input c =
    clock_found (design_ports c.args.design.now) c.args.number c.args.name.now c.args.count.now None c.in_default-find_input.ensures.place c.in-Some.turns c.in-Some.ensures.value.0 c.in-Some.ensures.value.1

pub returns : goal.returns
returns c =
    clock_found (design_ports c.args.design.now) c.args.number c.args.name.now c.args.count.now (Some c.in-Some-find_input.place) c.in-Some-find_input.ensures.place c.in-Some.turns c.in-Some.ensures.value.0 c.in-Some.ensures.value.1
