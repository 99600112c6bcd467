use Rattle.std.proofs.Common.{◌≡◌, ◌≤◌, ℕ, length, get_or, take, replicate}
use Rattle.order_levels.specs.Sets.{levels_along}
use Rattle.order_levels.proofs.level.levels_along.Given as goal

abbrev pub invariant-loop-n : goal.invariant-loop-n
invariant-loop-n l = record {
  len : length l.levels.items ≡ length l.sources;
  so_far : l.levels.items ≡ levels_along l.sources (replicate (length l.sources) 0) (take l.n-index l.order);
  small : (m : ℕ) → get_or l.levels.items m 0 ≤ l.n-index;
}
