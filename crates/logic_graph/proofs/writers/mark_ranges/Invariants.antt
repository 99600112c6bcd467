use Rattle.std.proofs.Common.{◌≡◌, ℕ, cond, get_or, take}
use Rattle.logic_graph.specs.Noting.{has_word_of}
use Rattle.logic_graph.proofs.writers.mark_ranges.Given as goal

abbrev pub invariant-loop-r : goal.invariant-loop-r
invariant-loop-r l = (k : ℕ) → get_or l.of_word k 0 ≡ cond (has_word_of k (take l.r-index l.ranges)) l.writer (get_or l.fn.of_word k 0)
