use Rattle.std.proofs.Common.{◌+◌, ◌<◌, ◌≤◌, ℕ, length, get_or}
use Rattle.logic_graph.specs.Noting.{IsRun}
use Rattle.logic_graph.proofs.writers.mark_ends.Given as goal

abbrev pub invariant-back : goal.invariant-back
invariant-back l = record {
  within : l.w ≤ length l.of_word;
  runs : (k : ℕ) → l.w ≤ k + 1 → k < length l.of_word → IsRun l.of_word k (get_or l.run_end k 0);
}

abbrev pub decreases-back : goal.decreases-back
decreases-back l = l.w
