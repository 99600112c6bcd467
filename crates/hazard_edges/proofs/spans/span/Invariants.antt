use Rattle.std.proofs.Common.{◌≡◌, take}
use Rattle.hazard_edges.specs.Spans.{span_of}
use Rattle.hazard_edges.proofs.spans.span.Given as goal

abbrev pub invariant-loop-r : goal.invariant-loop-r
invariant-loop-r l = l.span ≡ span_of (take l.r-index l.ranges)
