use Rattle.std.proofs.Common.{◌≡◌, ℕ, [], length, get_or, take}
use Rattle.order_levels.specs.Sets.{sources_of}
use Rattle.order_levels.proofs.lists.source_lists.Given as goal

abbrev pub invariant-loop-e : goal.invariant-loop-e
invariant-loop-e l = (length l.lists.items ≡ l.nodes) × ((n : ℕ) → get_or l.lists.items n [] ≡ sources_of n (take l.e-index l.edges))
