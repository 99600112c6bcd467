-- How the code holds lists and counts of nodes.
use Rattle.std.specs.Prelude.{ℕ, ◌+◌, ◌==◌, nat_lt, max, Bool, true, not, ◌&&◌, List, [], length, Option, slice_index, slice_index_or, slice_set, map, fold, count_by}
use Rattle.std.specs.List.{filter, list_all}
use Rattle.plan_graph.specs.declared.node.Edge.{Edge}
use Rattle.plan_graph.specs.Graphs.{is_among}
use Rattle.order_levels.specs.Settling.{first_below}

-- where the edges to a node come from, and where those from it lead
abbrev pub sources_of : ℕ → List Edge → List ℕ
sources_of n edges = map (λ e. e.from) (filter (λ e. e.to == n) edges)

abbrev pub targets_of : ℕ → List Edge → List ℕ
targets_of n edges = map (λ e. e.to) (filter (λ e. e.from == n) edges)

-- how many edges to a node come from nodes that have not run
abbrev pub waits_left : List Edge → List ℕ → ℕ → ℕ
waits_left edges ran n = count_by (λ e. (e.to == n) && not (is_among e.from ran)) edges

abbrev pub all_below : ℕ → List ℕ → Bool
all_below nodes list = list_all (λ n. nat_lt n nodes) list

abbrev pub each_below : ℕ → List (List ℕ) → Bool
each_below nodes lists = list_all (all_below nodes) lists

-- a source that is not marked
abbrev pub unmarked : List Bool → List ℕ → ℕ → Bool
unmarked marks sources m = not (slice_index_or marks m true) && is_among m sources

-- the first source of a node that is not marked
abbrev pub holder_in : List (List ℕ) → List Bool → ℕ → Option ℕ
holder_in sources marks n = first_below (unmarked marks (slice_index_or sources n [])) (length sources)

-- one more than the greatest level of the sources, and 0 where there is none
abbrev pub level_over : List ℕ → List ℕ → ℕ
level_over levels sources = fold (λ most m. max most (slice_index levels m + 1)) 0 sources

abbrev pub levels_along : List (List ℕ) → List ℕ → List ℕ → List ℕ
levels_along sources levels order = fold (λ so_far n. slice_set so_far n (level_over so_far (slice_index_or sources n []))) levels order

-- the greatest of these at the sources, and 0 where there is none
abbrev pub greatest_at : List ℕ → List ℕ → ℕ
greatest_at paths sources = fold (λ most m. max most (slice_index paths m)) 0 sources

-- each node of the order has its cost and what the costliest path to a source of it costs
abbrev pub costs_along : List ℕ → List (List ℕ) → List ℕ → List ℕ → List ℕ
costs_along costs sources paths order = fold (λ so_far n. slice_set so_far n (slice_index costs n + greatest_at so_far (slice_index_or sources n []))) paths order
