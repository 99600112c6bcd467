use Rattle.std.proofs.Common.{false}
use Rattle.stimulus.proofs.Sets.{width_is}
use Rattle.stimulus.proofs.acts.port_width.Goals as goal

pub returns-clause-value : goal.returns-clause-value
returns-clause-value c =
    rw (c.as_slice-2.ensures, c.as_slice.ensures)
    (width_is c.args.design.now.vars c.args.design.now.ports c.args.place (record { var = 0; input = false }) c.requires c.index-as_slice-port.result c.args.design.now.ports_fit)
