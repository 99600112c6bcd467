use Rattle.std.proofs.Common.{◌<◌, ℕ, get_or}
use Rattle.logic_graph.specs.declared.ranges.Touched.{Touched}
use Rattle.logic_graph.specs.Noting.{Keeps}
use Rattle.logic_graph.proofs.apart.all_keep.Given as goal

abbrev pub invariant-loop-i : goal.invariant-loop-i
invariant-loop-i l = (k : ℕ) (d : Touched) → k < l.i → Keeps l.of_word k (get_or l.procs k d).writes
