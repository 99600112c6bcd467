use Rattle.vsim_cli.specs.RefusalLaws.{design_refused, absent_refused}
use Rattle.vsim_cli.proofs.front.lay_out.Goals as goal

pub returns-in-Err-clause-refusal : goal.returns-in-Err-clause-refusal
returns-in-Err-clause-refusal c = λ command. absent_refused command.files c.args.top.now c.args.names.now c.args.tree.now c.in-Err.ensures.absent c.in-Err.ensures.named

pub returns-in-Ok-elaborate-clause-laid : goal.returns-in-Ok-elaborate-clause-laid
returns-in-Ok-elaborate-clause-laid c =
    let r = c.in-Ok-elaborate.ensures in
    record { name = c.in-Ok.name; asked = c.in-Ok.ensures.asked; first = r.top; imports = r.imports; single = r.single }

pub returns-in-Err-elaborate-clause-refusal : goal.returns-in-Err-elaborate-clause-refusal
returns-in-Err-elaborate-clause-refusal c = λ command. design_refused command.files c.args.top.now c.args.names.now c.args.tree.now c.in-Ok.name c.in-Ok.ensures.asked c.in-Err-elaborate.fault c.in-Err-elaborate.ensures.fault
