-- Settle orders, loops and serial orders of a few nodes.
use Rattle.std.proofs.Common.{◌≡◌, ℕ, List, [], ◌∷◌, Some, true, false, refl}
use Rattle.plan_graph.specs.declared.node.Edge.{Edge}
use Rattle.plan_graph.specs.declared.node.Node.TheVariants.{Comb, Body, Commit}
use Rattle.plan_graph.specs.declared.node.Part.TheVariants.{Settle, Clocked}
use Rattle.order_levels.specs.Settling.{is_ready, all_run, first_holder, settling, InOrder, Stalls}
use Rattle.order_levels.specs.Serial.{serial_nodes, node_count}

abbrev edge : ℕ → ℕ → Edge
edge i j = record { from = i; to = j }

abbrev diamond : List Edge
diamond = edge 3 0 ∷ edge 3 1 ∷ edge 0 2 ∷ edge 1 2 ∷ []

abbrev ring : List Edge
ring = edge 1 0 ∷ edge 3 1 ∷ edge 2 1 ∷ edge 4 2 ∷ edge 1 4 ∷ []

no_edges : settling 3 [] ≡ InOrder (0 ∷ 1 ∷ 2 ∷ [])
no_edges = refl

no_nodes : settling 0 [] ≡ InOrder []
no_nodes = refl

waits_for_its_source : is_ready diamond [] 0 ≡ false
waits_for_its_source = refl

ready_once_it_has_run : is_ready diamond (3 ∷ []) 0 ≡ true
ready_once_it_has_run = refl

runs_once : is_ready diamond (3 ∷ 0 ∷ []) 0 ≡ false
runs_once = refl

lowest_first : settling 4 diamond ≡ InOrder (3 ∷ 0 ∷ 1 ∷ 2 ∷ [])
lowest_first = refl

some_run_before_the_stall : all_run 5 ring ≡ 3 ∷ []
some_run_before_the_stall = refl

held_up_by_the_first : first_holder 5 ring (3 ∷ []) 1 ≡ Some 2
held_up_by_the_first = refl

-- node 0 is where the walk starts, and is in no loop
loop_of_three : settling 5 ring ≡ Stalls (1 ∷ 2 ∷ 4 ∷ [])
loop_of_three = refl

waits_for_itself : settling 2 (edge 1 1 ∷ []) ≡ Stalls (1 ∷ [])
waits_for_itself = refl

settle_part : serial_nodes (false ∷ true ∷ false ∷ []) (1 ∷ 0 ∷ []) Settle ≡ Comb 2 ∷ Comb 0 ∷ []
settle_part = refl

clocked_part : serial_nodes (false ∷ true ∷ false ∷ true ∷ []) (1 ∷ 0 ∷ []) Clocked ≡ Body 1 ∷ Body 3 ∷ Commit 1 ∷ Commit 3 ∷ Comb 2 ∷ Comb 0 ∷ []
clocked_part = refl

nothing_is_clocked : serial_nodes (false ∷ false ∷ []) (0 ∷ 1 ∷ []) Clocked ≡ []
nothing_is_clocked = refl

counted_before : node_count 2 2 Clocked ≡ 6
counted_before = refl
