-- The room of calls, by the codes of nodes.
use Rattle.std.proofs.Common.{◌≡◌, ℕ, ◌+◌, ◌*◌, ◌-◌, ◌^◌, min, List, [], ◌∷◌, map, refl, sym, ap, ◌∙◌, arith}
use Rattle.std.specs.List.{fold, sum_by}
use Rattle.plan_graph.specs.declared.node.Node.{Node}
use Rattle.plan_types.specs.declared.built.Built.{Built}
use Rattle.plan_types.specs.declared.run.TheConstants.{MOST_RUNS}
use Rattle.plan_types.specs.Coded.{code_number}
use Rattle.plan_types.specs.RoundLaws.{most}
use Rattle.plan_types.specs.Room.{code_calls, node_calls, call_room}

-- a sum over what a list is mapped to
mapped : (f : ℕ → ℕ) (g : Node → ℕ) (so_far : ℕ) (nodes : List Node) → fold (λ a n. a + f n) so_far (map g nodes) ≡ fold (λ a n. a + f (g n)) so_far nodes
mapped f g so_far [] = refl
mapped f g so_far (n ∷ more) = mapped f g (so_far + f (g n)) more

by_codes : (b : Built) (nodes : List Node) (codes : List ℕ) → codes ≡ map (code_number b.design.procs) nodes → sum_by (code_calls b) codes ≡ sum_by (node_calls b) nodes
by_codes b nodes codes are = ap (sum_by (code_calls b)) are ∙ mapped (code_calls b) (code_number b.design.procs) 0 nodes

-- sums that are cut off are the sum, cut off
cut_off : (settle clocked once each product room : ℕ) → once ≡ min settle (2 ^ 64 - 1) → each ≡ min clocked (2 ^ 64 - 1)
    → product ≡ min (each * MOST_RUNS) (2 ^ 64 - 1) → room ≡ min (once + product) (2 ^ 64 - 1)
    → room ≡ min (settle + MOST_RUNS * clocked) (2 ^ 64 - 1)
cut_off settle clocked once each product room is_once is_each is_product is_room = omega (arith, is_once, is_each, is_product, is_room)

-- the room, by what is cut off at what 64 bits hold
pub room_is : (b : Built) (settle clocked : List ℕ) (once each product room : ℕ)
    → settle ≡ map (code_number b.design.procs) b.settle.nodes → clocked ≡ map (code_number b.design.procs) b.clocked.nodes
    → once ≡ min (sum_by (code_calls b) settle) (2 ^ 64 - 1) → each ≡ min (sum_by (code_calls b) clocked) (2 ^ 64 - 1)
    → product ≡ min (each * MOST_RUNS) (2 ^ 64 - 1) → room ≡ min (once + product) (2 ^ 64 - 1)
    → room ≡ min (call_room b) (2 ^ 64 - 1)
room_is b settle clocked once each product room s c is_once is_each is_product is_room =
    let first : sum_by (code_calls b) settle ≡ sum_by (node_calls b) b.settle.nodes = by_codes b b.settle.nodes settle s in
    let second : sum_by (code_calls b) clocked ≡ sum_by (node_calls b) b.clocked.nodes = by_codes b b.clocked.nodes clocked c in
    cut_off (sum_by (node_calls b) b.settle.nodes) (sum_by (node_calls b) b.clocked.nodes) once each product room
    (is_once ∙ ap (λ (n : ℕ). min n (2 ^ 64 - 1)) first) (is_each ∙ ap (λ (n : ℕ). min n (2 ^ 64 - 1)) second) is_product is_room
    ∙ sym (ap (λ (n : ℕ). min (sum_by (node_calls b) b.settle.nodes + n * sum_by (node_calls b) b.clocked.nodes) (2 ^ 64 - 1)) most)
