-- Which nodes of a part must keep their serial order, by the words that they read and write and by their calls.
use Rattle.std.specs.Prelude.{◌≡◌, ◌<◌, ◌+◌, ◌-◌, ℕ, zero, suc, Bool, true, false, not, ◌&&◌, ◌||◌, nat_lt, List, [], ◌∷◌, ◌++◌, map, length, slice_get, slice_index_or, Option, Some, None}
use Rattle.std.specs.List.{list_any, filter, range_with_len}
use Rattle.plan_graph.specs.declared.node.Edge.{Edge}
use Rattle.plan_graph.specs.Graphs.{Leads}
use Rattle.logic_graph.specs.declared.ranges.Touched.{Touched}
use Rattle.logic_graph.specs.Reading.{meet_somewhere, edge_to}

-- two nodes share a word that one of them writes
abbrev pub share : Touched → Touched → Bool
share a b = meet_somewhere a.writes b.reads || (meet_somewhere a.reads b.writes || meet_somewhere a.writes b.writes)

abbrev pub share_if : Option Touched → Option Touched → Bool
share_if (Some a) (Some b) = share a b
share_if (Some a) None = false
share_if None b = false

abbrev pub nodes_share : List Touched → ℕ → ℕ → Bool
nodes_share touched i j = share_if (slice_get touched i) (slice_get touched j)

-- both make calls that are not deemed safe
abbrev pub call : List Bool → ℕ → Bool
call calls n = slice_index_or calls n false

abbrev pub both_call : List Bool → ℕ → ℕ → Bool
both_call calls i j = call calls i && call calls j

-- two nodes conflict
abbrev pub conflict : List Touched → List Bool → ℕ → ℕ → Bool
conflict touched calls i j = nodes_share touched i j || both_call calls i j

-- no node between two makes such calls
abbrev pub none_between : List Bool → ℕ → ℕ → Bool
none_between calls i j = not (list_any (call calls) (range_with_len (suc i) (j - suc i)))

-- the edges: from a node to a later one with which it shares such a word, or where both make such calls and no node between them does
abbrev pub is_hazard : List Touched → List Bool → ℕ → ℕ → Bool
is_hazard touched calls i j = nodes_share touched i j || (both_call calls i j && none_between calls i j)

abbrev pub hazards_from : List Touched → List Bool → ℕ → List Edge
hazards_from touched calls i = map (edge_to i) (filter (is_hazard touched calls i) (range_with_len (suc i) (length touched - suc i)))

abbrev pub hazards_of_all : List Touched → List Bool → List ℕ → List Edge
hazards_of_all touched calls [] = []
hazards_of_all touched calls (i ∷ more) = hazards_from touched calls i ++ hazards_of_all touched calls more

-- ascending by the node that they come from, and then by the node that they lead to
abbrev pub hazards : List Touched → List Bool → List Edge
hazards touched calls = hazards_of_all touched calls (range_with_len 0 (length touched))

-- of conflicting nodes a path leads from the earlier one to the later one
abbrev pub OrdersConflicts : List Touched → List Bool → List Edge → Type 0
OrdersConflicts touched calls edges = (i j : ℕ) → i < j → j < length touched → conflict touched calls i j ≡ true → Leads edges i j
