use Rattle.std.proofs.Common.{◌≡◌, ◌<◌, ◌≤◌, ℕ, length, get_or, drop}
use Rattle.plan_graph.specs.Groupings.{group_from}
use Rattle.thread_pack.proofs.task_graph.group_numbers.Given as goal

abbrev pub invariant-down : goal.invariant-down
invariant-down l = record {
  low : l.k ≤ length l.groups;
  len : length l.numbers.items ≡ l.nodes;
  numbered : (n : ℕ) → n < l.nodes → get_or l.numbers.items n 0 ≡ group_from l.k (drop l.k l.groups) n;
}

abbrev pub decreases-down : goal.decreases-down
decreases-down l = l.k
