use Rattle.std.proofs.Common.{◌≡◌, ◌∙◌, length, take, ap, arith}
use Rattle.logic_graph.specs.declared.ranges.WordRange.{WordRange}
use Rattle.hazard_edges.specs.Spans.{covers, span_of}
use Rattle.hazard_edges.proofs.SpanLemmas.{span_covers, all_taken}
use Rattle.hazard_edges.proofs.spans.span.Goals as goal

pub returns-clause-covers : goal.returns-clause-covers
returns-clause-covers c =
    let ranges = c.args.ranges.now in
    let whole : take c.loop-r.r-index ranges ≡ ranges = all_taken ranges c.loop-r.r-index (let end = c.loop-r-test.false in omega arith) in
    ap (λ (span : WordRange). covers span ranges) (c.loop-r.invariant ∙ ap span_of whole) ∙ span_covers ranges
