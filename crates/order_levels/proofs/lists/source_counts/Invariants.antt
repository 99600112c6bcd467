use Rattle.std.proofs.Common.{◌≡◌, ◌<◌, ◌==◌, ℕ, length, get_or, take, count_by}
use Rattle.plan_graph.specs.declared.node.Edge.{Edge}
use Rattle.order_levels.proofs.lists.source_counts.Given as goal

abbrev pub invariant-loop-e : goal.invariant-loop-e
invariant-loop-e l = (length l.counts.items ≡ l.nodes) × ((n : ℕ) → n < l.nodes → get_or l.counts.items n 0 ≡ count_by (λ (e : Edge). e.to == n) (take l.e-index l.edges))
