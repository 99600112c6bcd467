use Rattle.std.proofs.Common.{◌≡◌, take}
use Rattle.logic_graph.specs.Noting.{listed}
use Rattle.logic_graph.proofs.graph.list_edges.Given as goal

abbrev pub invariant-loop-i : goal.invariant-loop-i
invariant-loop-i l = l.edges ≡ listed 0 (take l.i l.readers)
