use Rattle.std.proofs.Common.{◌∙◌, ◌++◌, sym, map}
use Rattle.logic_graph.specs.Reading.{edge_to}
use Rattle.logic_graph.proofs.EdgeLemmas.{listed_more}
use Rattle.logic_graph.proofs.graph.list_edges.Goals as goal

pub loop-i-preserved : goal.loop-i-preserved
loop-i-preserved c =
    c.in_ok-push_edges.ensures ∙ (λ j. c.loop-i.invariant j ++ map (edge_to c.loop-i.i) (c.as_slice.ensures j))
    ∙ sym (listed_more c.args.readers.now c.loop-i.i c.index-readers-i.result c.loop-i-test.true c.index-readers-i.is)
