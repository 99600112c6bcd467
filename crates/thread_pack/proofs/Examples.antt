-- Three groups of four nodes, and what packing asks of them.
use Rattle.std.proofs.Common.{◌≡◌, ◌<◌, ◌≤◌, ◌==◌, ◌^◌, ℕ, List, [], ◌∷◌, ◌++◌, Bool, true, cond, nat_lt, refl, sym, ap, ◌∙◌, inl, inr, ◌⊎◌, arith}
use Rattle.std.specs.List.{concat, sum, list_all}
use Rattle.std.proofs.lemmas.Bool.{cases_lt, le-ltb, ne_eqb}
use Rattle.plan_graph.specs.declared.node.Edge.{Edge}
use Rattle.plan_graph.specs.Graphs.{HasNoCycle}
use Rattle.plan_graph.specs.GraphLaws.{rises, no_cycle_where_edges_rise}
use Rattle.plan_graph.specs.Groupings.{times, ExactlyOnce, group_edges}
use Rattle.plan_graph.specs.ListLaws.{times_range}

abbrev edge : ℕ → ℕ → Edge
edge i j = record { from = i; to = j }

abbrev pub edges : List Edge
edges = edge 0 2 ∷ edge 1 2 ∷ edge 2 3 ∷ []

abbrev pub groups : List (List ℕ)
groups = (0 ∷ []) ∷ (1 ∷ []) ∷ (2 ∷ 3 ∷ []) ∷ []

pub each_once : ExactlyOnce 4 groups
each_once n = times_range 4 n

pub acyclic : HasNoCycle (group_edges groups edges)
acyclic = no_cycle_where_edges_rise (group_edges groups edges) refl
