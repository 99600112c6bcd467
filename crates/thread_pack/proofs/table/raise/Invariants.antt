use Rattle.std.proofs.Common.{◌≡◌, ◌<◌, ◌≤◌, ◌==◌, ℕ, length, get_or, max, cond}
use Rattle.thread_pack.proofs.table.raise.Given as goal

abbrev pub invariant-loop-k : goal.invariant-loop-k
invariant-loop-k l = record {
  len : length l.row ≡ length l.fn.row;
  done : (k : ℕ) → k < l.k → get_or l.row k 0 ≡ max (get_or l.fn.row k 0) (cond (l.thread == k) l.end l.late);
  left : (k : ℕ) → l.k ≤ k → get_or l.row k 0 ≡ get_or l.fn.row k 0;
}
