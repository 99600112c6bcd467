-- Directed graphs. Nodes are the numbers below a count, and edges a list.
use Rattle.std.specs.Prelude.{◌≡◌, ◌≤◌, ◌+◌, ℕ, ◌==◌, nat_lt, Bool, true, false, ◌&&◌, List, [], ◌∷◌, length}
use Rattle.std.specs.List.{list_any}
use Rattle.plan_graph.specs.declared.node.Edge.{Edge}

-- both ends of an edge are nodes
abbrev pub ends_within : ℕ → Edge → Bool
ends_within nodes e = nat_lt e.from nodes && nat_lt e.to nodes

abbrev pub joins : ℕ → ℕ → Edge → Bool
joins i j e = (e.from == i) && (e.to == j)

-- an edge leads from the first node to the second
abbrev pub has_edge : List Edge → ℕ → ℕ → Bool
has_edge edges i j = list_any (joins i j) edges

abbrev pub is_among : ℕ → List ℕ → Bool
is_among n list = list_any (λ m. m == n) list

-- A path to a node, told from its end: each of its nodes has an edge to the one before. It has as many edges as nodes are told.
abbrev pub is_path_to : ℕ → List Edge → List ℕ → Bool
is_path_to j edges [] = true
is_path_to j edges (i ∷ back) = has_edge edges i j && is_path_to i edges back

-- no path to a node comes from the node itself
abbrev pub HasNoCycle : List Edge → Type 0
HasNoCycle edges = (j : ℕ) (back : List ℕ) → is_path_to j edges back ≡ true → is_among j back ≡ false

-- the level of a node: the number of edges of the longest path to it
pub record IsLevel (edges : List Edge) (j : ℕ) (level : ℕ) : Type 0 where
  -- some path to it has so many
  pub path : List ℕ
  pub is_path : is_path_to j edges path ≡ true
  pub so_long : length path ≡ level
  -- and none has more
  pub longest : (back : List ℕ) → is_path_to j edges back ≡ true → length back ≤ level

-- a path of one edge or more leads from a node to another
pub record Leads (edges : List Edge) (i j : ℕ) : Type 0 where
  pub back : List ℕ
  pub is_path : is_path_to j edges back ≡ true
  pub starts : is_among i back ≡ true

-- What these nodes cost together.
abbrev pub cost_of_all : (ℕ → ℕ) → List ℕ → ℕ
cost_of_all cost [] = 0
cost_of_all cost (i ∷ more) = cost i + cost_of_all cost more

-- the cost of the costliest path to a node, the node included
pub record IsCostliest (cost : ℕ → ℕ) (edges : List Edge) (j : ℕ) (most : ℕ) : Type 0 where
  -- some path to it costs so much
  pub path : List ℕ
  pub is_path : is_path_to j edges path ≡ true
  pub so_much : cost j + cost_of_all cost path ≡ most
  -- and none costs more
  pub longest : (back : List ℕ) → is_path_to j edges back ≡ true → cost j + cost_of_all cost back ≤ most

-- an edge the other way round, so that paths from a node are paths to it
abbrev pub turned : Edge → Edge
turned e = record { from = e.to; to = e.from }
