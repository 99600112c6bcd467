use Rattle.std.proofs.Common.{◌≡◌, ◌<◌, ℕ, true, length, get_or, take}
use Rattle.plan_graph.specs.Graphs.{is_among}
use Rattle.order_levels.proofs.lists.marks_of.Given as goal

abbrev pub invariant-loop-n : goal.invariant-loop-n
invariant-loop-n l = (length l.marks.items ≡ l.nodes) × ((m : ℕ) → m < l.nodes → get_or l.marks.items m true ≡ is_among m (take l.n-index l.list))
