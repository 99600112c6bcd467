use Rattle.std.proofs.Common.{◌≡◌, ◌<◌, ◌==◌, ℕ, [], length, get_or, max, cond, take}
use Rattle.plan_graph.specs.Graphs.{is_among}
use Rattle.thread_pack.proofs.table.raise_all.Given as goal

abbrev pub invariant-loop-t : goal.invariant-loop-t
invariant-loop-t l = record {
  len : length l.rows.items ≡ length l.fn.rows.items;
  lens : (n : ℕ) → length (get_or l.rows.items n []) ≡ length (get_or l.fn.rows.items n []);
  raised : (n k : ℕ) → k < length (get_or l.fn.rows.items n [])
      → get_or (get_or l.rows.items n []) k 0 ≡ cond (is_among n (take l.t-index l.targets)) (max (get_or (get_or l.fn.rows.items n []) k 0) (cond (l.thread == k) l.end l.late)) (get_or (get_or l.fn.rows.items n []) k 0);
}
