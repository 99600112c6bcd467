use Rattle.std.proofs.Common.{◌≡◌, take}
use Rattle.std.specs.List.{sum_by}
use Rattle.proc_cost.specs.Costs.{onto, op_cost}
use Rattle.proc_cost.proofs.expr.add_ops.Given as goal

abbrev pub invariant-loop-op : goal.invariant-loop-op
invariant-loop-op l = l.cost ≡ onto l.so_far (sum_by op_cost (take l.op-index l.ops))
