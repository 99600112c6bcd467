-- What a settle order and a loop tell, whatever the edges are.
use Rattle.std.specs.Prelude.{◌≡◌, ◌<◌, ℕ, true, false, List, [], ◌∷◌, ◌++◌}
use Rattle.plan_graph.specs.declared.node.Edge.{Edge}
use Rattle.plan_graph.specs.Graphs.{has_edge, is_among, is_path_to}

-- every node stands in a settle order
abbrev pub HasEachNode : ℕ → List ℕ → Type 0
HasEachNode nodes order = (n : ℕ) → n < nodes → is_among n order ≡ true

-- and none twice
abbrev pub HasNoneTwice : List ℕ → Type 0
HasNoneTwice order = (before : List ℕ) (n : ℕ) (after : List ℕ) → order ≡ before ++ n ∷ after → is_among n before ≡ false

-- each edge to a node of the order comes from a node before it
abbrev pub KeepsEdges : List Edge → List ℕ → Type 0
KeepsEdges edges order = (before : List ℕ) (n : ℕ) (after : List ℕ) → order ≡ before ++ n ∷ after → (i : ℕ) → has_edge edges i n ≡ true → is_among i before ≡ true

-- each node of a loop has an edge to the one before it, and the first to the last
abbrev pub GoesRound : List Edge → List ℕ → Type 0
GoesRound edges [] = ⊥
GoesRound edges (n ∷ back) = is_path_to n edges (back ++ n ∷ []) ≡ true
