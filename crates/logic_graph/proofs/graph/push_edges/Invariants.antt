use Rattle.std.proofs.Common.{◌≡◌, ◌++◌, map, take}
use Rattle.logic_graph.specs.Reading.{edge_to}
use Rattle.logic_graph.proofs.graph.push_edges.Given as goal

abbrev pub invariant-loop-to : goal.invariant-loop-to
invariant-loop-to l = l.edges ≡ l.fn.edges ++ map (edge_to l.from) (take l.to-index l.readers)
