use Rattle.std.proofs.Common.{◌∙◌, ap, take}
use Rattle.std.specs.List.{sum_by}
use Rattle.proc_cost.specs.Costs.{onto, op_cost}
use Rattle.proc_cost.specs.CostLaws.{onto_next}
use Rattle.proc_cost.proofs.expr.add_ops.Goals as goal

pub loop-op-preserved : goal.loop-op-preserved
loop-op-preserved c = c.add-cost-in-loop-op.ensures ∙ ap (λ n. onto n c.op_cost.result) c.loop-op.invariant ∙ ap (onto (onto c.args.so_far (sum_by op_cost (take c.loop-op.op-index c.args.ops.now)))) c.op_cost.ensures ∙ onto_next op_cost c.args.so_far c.args.ops.now c.loop-op.op-index _ c.loop-op-test.true
