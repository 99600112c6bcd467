-- Graphs of a few nodes, and what the terms say of them.
use Rattle.std.proofs.Common.{◌≡◌, ℕ, List, [], ◌∷◌, true, false, refl}
use Rattle.std.specs.List.{list_all}
use Rattle.plan_graph.specs.declared.node.Edge.{Edge}
use Rattle.plan_graph.specs.Graphs.{ends_within, has_edge, is_path_to, is_among}

abbrev edge : ℕ → ℕ → Edge
edge i j = record { from = i; to = j }

abbrev diamond : List Edge
diamond = edge 0 1 ∷ edge 0 2 ∷ edge 1 3 ∷ edge 2 3 ∷ []

abbrev ring : List Edge
ring = edge 0 1 ∷ edge 1 2 ∷ edge 2 0 ∷ []

ends_are_nodes : list_all (ends_within 4) diamond ≡ true
ends_are_nodes = refl

an_end_is_no_node : list_all (ends_within 3) diamond ≡ false
an_end_is_no_node = refl

leads : has_edge diamond 2 3 ≡ true
leads = refl

leads_one_way : has_edge diamond 3 2 ≡ false
leads_one_way = refl

path_of_no_edge : is_path_to 3 diamond [] ≡ true
path_of_no_edge = refl

path_of_two_edges : is_path_to 3 diamond (1 ∷ 0 ∷ []) ≡ true
path_of_two_edges = refl

told_from_its_end : is_path_to 0 diamond (1 ∷ 3 ∷ []) ≡ false
told_from_its_end = refl

not_past_the_start : is_path_to 3 diamond (2 ∷ 0 ∷ 1 ∷ []) ≡ false
not_past_the_start = refl

round_the_ring : is_path_to 0 ring (2 ∷ 1 ∷ 0 ∷ []) ≡ true
round_the_ring = refl

comes_from_itself : is_among 0 (2 ∷ 1 ∷ 0 ∷ []) ≡ true
comes_from_itself = refl

among_others : is_among 3 (2 ∷ 1 ∷ 0 ∷ []) ≡ false
among_others = refl
