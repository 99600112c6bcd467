use Rattle.std.proofs.Common.{◌≡◌, ◌≤◌, ◌&&◌, ℕ, max, cond, nat_lt, nat_le, get_or}
use Rattle.logic_graph.proofs.writers.mark_range.Given as goal

abbrev pub invariant-loop-w : goal.invariant-loop-w
invariant-loop-w l = record {
  up : l.w ≤ max l.fn.range.first l.fn.range.end;
  marked : (k : ℕ) → get_or l.of_word k 0 ≡ cond (nat_le l.fn.range.first k && nat_lt k l.w) l.writer (get_or l.fn.of_word k 0);
}
