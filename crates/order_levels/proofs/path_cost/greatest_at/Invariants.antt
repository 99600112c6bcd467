use Rattle.std.proofs.Common.{◌≡◌, ◌≤◌, ℕ, get_or, take}
use Rattle.order_levels.specs.Sets.{greatest_at}
use Rattle.order_levels.proofs.path_cost.greatest_at.Given as goal

abbrev pub invariant-loop-m : goal.invariant-loop-m
invariant-loop-m l = (l.most ≡ greatest_at l.paths (take l.m-index l.sources)) × ((top : ℕ) → ((k : ℕ) → get_or l.paths k 0 ≤ top) → l.most ≤ top)
