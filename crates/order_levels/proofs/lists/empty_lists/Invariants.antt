use Rattle.std.proofs.Common.{◌≡◌, ◌≤◌, ◌-◌, ℕ, [], length, get_or}
use Rattle.order_levels.proofs.lists.empty_lists.Given as goal

abbrev pub invariant-fill : goal.invariant-fill
invariant-fill l = (length l.lists.items ≤ l.nodes) × ((n : ℕ) → get_or l.lists.items n [] ≡ [])

abbrev pub decreases-fill : goal.decreases-fill
decreases-fill l = l.nodes - length l.lists.items
