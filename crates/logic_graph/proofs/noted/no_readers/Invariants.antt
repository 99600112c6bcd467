use Rattle.std.proofs.Common.{◌≡◌, ◌≤◌, ◌-◌, ℕ, List, [], length, get_or}
use Rattle.std.specs.List.{sum_by}
use Rattle.logic_graph.proofs.noted.no_readers.Given as goal

abbrev pub invariant-fill : goal.invariant-fill
invariant-fill l = record {
  within : length l.readers.items ≤ l.procs;
  empty : (i : ℕ) → get_or l.readers.items i [] ≡ [];
  none : sum_by (λ (list : List ℕ). length list) l.readers.items ≡ 0;
}

abbrev pub decreases-fill : goal.decreases-fill
decreases-fill l = l.procs - length l.readers.items
