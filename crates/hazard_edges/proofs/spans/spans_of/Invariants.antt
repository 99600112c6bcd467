use Rattle.std.proofs.Common.{◌≡◌, ◌<◌, ℕ, true, length, slice_index_or}
use Rattle.logic_graph.specs.declared.ranges.WordRange.{WordRange}
use Rattle.logic_graph.specs.declared.ranges.Touched.{Touched}
use Rattle.hazard_edges.specs.Spans.{covers}
use Rattle.hazard_edges.proofs.spans.spans_of.Given as goal

abbrev pub invariant-loop-node : goal.invariant-loop-node
invariant-loop-node l = record {
  len : length l.spans.items ≡ l.node-index;
  each : (i : ℕ) (t : Touched) (s : WordRange) → i < l.node-index → covers (slice_index_or l.spans.items i s) (slice_index_or l.touched i t).writes ≡ true;
}
