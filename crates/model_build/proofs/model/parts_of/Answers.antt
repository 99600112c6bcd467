use Rattle.plan_graph.specs.declared.node.Part.TheVariants as part
use Rattle.model_build.proofs.Planned.{plan_same}
use Rattle.model_build.proofs.model.parts_of.Goals as goal

pub returns-clause-settle : goal.returns-clause-settle
returns-clause-settle c =
    plan_same c.as_slice.result.now c.args.design.now.procs c.as_slice-2.result.now c.args.laid.now.codes c.as_slice-4.result.now c.args.laid.now.order.items part.Settle c.in_ok-settle.settle
    c.as_slice.ensures c.as_slice-2.ensures c.as_slice-4.ensures.value c.in_ok-settle.ensures

pub returns-clause-clocked : goal.returns-clause-clocked
returns-clause-clocked c =
    plan_same c.as_slice.result.now c.args.design.now.procs c.as_slice-2.result.now c.args.laid.now.codes c.as_slice-4.result.now c.args.laid.now.order.items part.Clocked c.in_ok-clocked.clocked
    c.as_slice.ensures c.as_slice-2.ensures c.as_slice-4.ensures.value c.in_ok-clocked.ensures
