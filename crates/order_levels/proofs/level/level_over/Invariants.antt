use Rattle.std.proofs.Common.{◌≡◌, ◌≤◌, ◌+◌, ℕ, get_or, take}
use Rattle.order_levels.specs.Sets.{level_over}
use Rattle.order_levels.proofs.level.level_over.Given as goal

abbrev pub invariant-loop-m : goal.invariant-loop-m
invariant-loop-m l = (l.most ≡ level_over l.levels (take l.m-index l.sources)) × ((top : ℕ) → ((k : ℕ) → get_or l.levels k 0 ≤ top) → l.most ≤ top + 1)
