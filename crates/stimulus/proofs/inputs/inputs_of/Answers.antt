use Rattle.std.proofs.Common.{length, false}
use Rattle.stimulus.proofs.Names.{port_grown, rest_fit}
use Rattle.stimulus.proofs.inputs.inputs_of.Goals as goal

pub ports-preserved : goal.ports-preserved
ports-preserved c = record {
  fit = rest_fit (length c.args.vars.now) c.ports.rest.now c.in-len1-up.len_at_least c.ports.invariant.fit;
  grows = port_grown c.args.vars.now c.args.ports.now c.ports.inputs c.add_port.new.inputs c.ports.place c.in-Some.next c.ports.rest.now (record { var = 0; input = false })
      c.in-len1-up.len_at_least c.in-Ok.ensures c.in-Some.ensures.1 c.ports.invariant.grows;
}
