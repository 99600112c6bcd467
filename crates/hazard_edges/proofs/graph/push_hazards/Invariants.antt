use Rattle.std.proofs.Common.{◌≡◌, ◌++◌}
use Rattle.hazard_edges.proofs.HazardLemmas.{edges_up_to, is_next}
use Rattle.hazard_edges.proofs.graph.push_hazards.Given as goal

abbrev pub invariant-loop-j : goal.invariant-loop-j
invariant-loop-j l = record { so_far : l.edges ≡ l.fn.edges ++ edges_up_to l.touched l.calls l.i l.j; next : l.next ≡ is_next l.touched l.calls l.i l.j }
