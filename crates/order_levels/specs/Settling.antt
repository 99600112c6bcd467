-- The order of settling, and the loop where settling stalls. The nodes are the numbers below `nodes`; each turn scans all of them anew.
use Rattle.std.specs.Prelude.{ℕ, zero, suc, ◌==◌, Bool, not, ◌&&◌, ◌||◌, List, [], ◌∷◌, ◌++◌, Option, Some, None, if◌then◌else◌, drop}
use Rattle.std.specs.List.{list_all, position_or_len}
use Rattle.plan_graph.specs.declared.node.Edge.{Edge}
use Rattle.plan_graph.specs.Graphs.{has_edge, is_among}

-- the first number that passes a test, of so many from `at` on
abbrev pub first_from : (ℕ → Bool) → ℕ → ℕ → Option ℕ
first_from passes at zero = None
first_from passes at (suc many) = if passes at then Some at else first_from passes (suc at) many

abbrev pub first_below : (ℕ → Bool) → ℕ → Option ℕ
first_below passes nodes = first_from passes 0 nodes

-- ---- the order

-- a node is ready when it has not run and every edge to it comes from one that has
abbrev pub is_ready : List Edge → List ℕ → ℕ → Bool
is_ready edges ran n = not (is_among n ran) && list_all (λ e. not (e.to == n) || is_among e.from ran) edges

-- each turn runs the first node that is ready
abbrev pub run_next : List ℕ → Option ℕ → (List ℕ → List ℕ) → List ℕ
run_next ran None more = ran
run_next ran (Some n) more = more (ran ++ n ∷ [])

abbrev pub run_turns : ℕ → ℕ → List Edge → List ℕ → List ℕ
run_turns zero nodes edges ran = ran
run_turns (suc turns) nodes edges ran = run_next ran (first_below (is_ready edges ran) nodes) (run_turns turns nodes edges)

-- the nodes that run, in order
abbrev pub all_run : ℕ → List Edge → List ℕ
all_run nodes edges = run_turns nodes nodes edges []

-- ---- where it stalls

abbrev pub first_left : ℕ → List ℕ → Option ℕ
first_left nodes ran = first_below (λ n. not (is_among n ran)) nodes

-- what holds a node up: the first that has not run and has an edge to it
abbrev pub first_holder : ℕ → List Edge → List ℕ → ℕ → Option ℕ
first_holder nodes edges ran n = first_below (λ m. not (is_among m ran) && has_edge edges m n) nodes

-- the part of a list from a number on
abbrev pub list_from : ℕ → List ℕ → List ℕ
list_from n list = drop (position_or_len (λ m. m == n) list) list

-- The walk goes from each node to what holds it up. Once it comes to one that it has walked, what it walked from that one on is the loop.
abbrev pub walk_turns : ℕ → (ℕ → Option ℕ) → List ℕ → Option ℕ → List ℕ
walk_turns zero holder walked next = []
walk_turns (suc turns) holder walked None = []
walk_turns (suc turns) holder walked (Some n) = if is_among n walked then list_from n walked else walk_turns turns holder (walked ++ n ∷ []) (holder n)

-- ---- both

pub data Settling : Type 0 where
  -- all nodes run, in this order
  InOrder : List ℕ → Settling
  -- some do not, and these hold each other up: each waits for the next, and the last for the first
  Stalls : List ℕ → Settling

abbrev pub after_run : ℕ → List Edge → List ℕ → Option ℕ → Settling
after_run nodes edges ran None = InOrder ran
after_run nodes edges ran (Some n) = Stalls (walk_turns (suc nodes) (first_holder nodes edges ran) [] (Some n))

-- it starts the walk from the first node that has not run
abbrev pub settling : ℕ → List Edge → Settling
settling nodes edges = after_run nodes edges (all_run nodes edges) (first_left nodes (all_run nodes edges))
