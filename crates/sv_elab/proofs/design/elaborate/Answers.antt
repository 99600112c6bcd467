use Rattle.sv_elab.proofs.Tops.{is_module}
use Rattle.sv_elab.proofs.design.elaborate.Goals as goal

pub returns-in_default-clause-fault : goal.returns-in_default-clause-fault
returns-in_default-clause-fault c = absurd (is_module _ c.args.tree.now.descriptions c.args.top c.in-Ok.number c.in-Ok.ensures.top c.in_default.ensures)
