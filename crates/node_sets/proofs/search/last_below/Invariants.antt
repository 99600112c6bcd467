use Rattle.std.proofs.Common.{◌≡◌, ℕ, ◌<◌, ◌≤◌, get_or}
use Rattle.node_sets.proofs.search.last_below.Given as goal

abbrev pub invariant-down : goal.invariant-down
invariant-down l = record { within : l.i ≤ l.end; none : (k : ℕ) → l.i ≤ k → k < l.end → get_or l.words k 0 ≡ 0 }

abbrev pub decreases-down : goal.decreases-down
decreases-down l = l.i
