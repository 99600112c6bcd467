use Rattle.std.proofs.Common.{◌≡◌, ◌≤◌, length}
use Rattle.std.specs.List.{range_with_len}
use Rattle.hazard_edges.specs.Hazards.{hazards_of_all}
use Rattle.vs_base.specs.declared.limits.TheConstants.{EDGES}
use Rattle.hazard_edges.proofs.graph.hazard_list.Given as goal

abbrev pub invariant-loop-i : goal.invariant-loop-i
invariant-loop-i l = record { so_far : l.edges ≡ hazards_of_all l.touched l.calls (range_with_len 0 l.i); within : length l.edges ≤ EDGES }
