use Rattle.std.proofs.Common.{◌≡◌, ◌<◌, ◌≤◌, ℕ, get_or}
use Rattle.logic_graph.proofs.apart.keeps_range.Given as goal

abbrev pub invariant-loop-w : goal.invariant-loop-w
invariant-loop-w l = (k : ℕ) → l.fn.range.first ≤ k → k < l.w → get_or l.of_word k 0 ≡ l.writer
