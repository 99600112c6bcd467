use Rattle.std.proofs.Common.{◌≡◌, ◌<◌, ℕ, length, get_or}
use Rattle.thread_pack.specs.Packing.{cost_of}
use Rattle.thread_pack.proofs.task_graph.group_costs.Given as goal

abbrev pub invariant-loop-group : goal.invariant-loop-group
invariant-loop-group l = record {
  len : length l.list.items ≡ l.group-index;
  each : (k : ℕ) → k < l.group-index → get_or l.list.items k 0 ≡ cost_of l.costs l.groups k;
}
