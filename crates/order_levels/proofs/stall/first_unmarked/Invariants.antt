use Rattle.std.proofs.Common.{◌≡◌, ◌<◌, ℕ, true, get_or}
use Rattle.order_levels.proofs.stall.first_unmarked.Given as goal

abbrev pub invariant-loop-i : goal.invariant-loop-i
invariant-loop-i l = (k : ℕ) → k < l.i → get_or l.marks k true ≡ true
