use Rattle.std.proofs.Common.{◌≡◌, ◌<◌, ◌≤◌, ◌-◌, ℕ, [], length, get_or}
use Rattle.thread_pack.proofs.table.empty_rows.Given as goal

abbrev pub invariant-fill : goal.invariant-fill
invariant-fill l = record {
  few : length l.rows.items ≤ l.tasks;
  lens : (n : ℕ) → n < length l.rows.items → length (get_or l.rows.items n []) ≡ l.threads;
  zeros : (n k : ℕ) → get_or (get_or l.rows.items n []) k 0 ≡ 0;
}

abbrev pub decreases-fill : goal.decreases-fill
decreases-fill l = l.tasks - length l.rows.items
