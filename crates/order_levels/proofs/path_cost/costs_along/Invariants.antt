use Rattle.std.proofs.Common.{◌≡◌, ◌≤◌, ◌*◌, ◌^◌, ℕ, length, get_or, take, replicate}
use Rattle.order_levels.specs.Sets.{costs_along}
use Rattle.order_levels.proofs.path_cost.costs_along.Given as goal

abbrev pub invariant-loop-n : goal.invariant-loop-n
invariant-loop-n l = record {
  len : length l.paths.items ≡ length l.sources;
  so_far : l.paths.items ≡ costs_along l.costs l.sources (replicate (length l.sources) 0) (take l.n-index l.order);
  small : (m : ℕ) → get_or l.paths.items m 0 ≤ l.n-index * 2 ^ 64;
}
