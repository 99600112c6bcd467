use Rattle.std.proofs.Common.{◌≡◌, ℕ, get_or, take}
use Rattle.logic_graph.specs.Noting.{writer_from}
use Rattle.logic_graph.proofs.writers.mark_procs.Given as goal

abbrev pub invariant-loop-i : goal.invariant-loop-i
invariant-loop-i l = (k : ℕ) → get_or l.of_word k 0 ≡ writer_from 0 (get_or l.fn.of_word k 0) (take l.i l.procs) k
