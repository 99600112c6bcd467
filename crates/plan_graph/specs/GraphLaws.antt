-- What holds of every list of edges.
use Rattle.std.proofs.Common.{◌≡◌, ◌<◌, ◌≤◌, ◌==◌, ℕ, suc, Bool, true, false, ◌&&◌, ◌||◌, List, [], ◌∷◌, ◌++◌, length, nat_lt, refl, sym, ap, subst, ◌∙◌, inl, inr, ◌⊎◌, arith}
use Rattle.std.specs.List.{list_any, list_all}
use Rattle.std.proofs.lemmas.Bool.{and_parts, and_from, or_cases, or_from, eqb-true, ne_eqb, ltb-true, cases_Bool}
use Rattle.plan_graph.specs.declared.node.Edge.{Edge}
use Rattle.plan_graph.specs.Graphs.{ends_within, joins, has_edge, is_among, is_path_to, HasNoCycle}

-- what holds of each edge holds of the one that leads from a node to another
pub has_edge_passes : (p : Edge → Bool) (edges : List Edge) (i j : ℕ) → list_all p edges ≡ true → has_edge edges i j ≡ true → p (record { from = i; to = j }) ≡ true
has_edge_passes p [] i j all has = absurd (let e : false ≡ true = has in cc)
has_edge_passes p (e ∷ edges) i j all has =
    let parts = and_parts (p e) (list_all p edges) all in
    by_cases parts.0 (has_edge_passes p edges i j parts.1) (or_cases (joins i j e) (has_edge edges i j) has)
  where
    by_cases : p e ≡ true → (has_edge edges i j ≡ true → p (record { from = i; to = j }) ≡ true)
        → (joins i j e ≡ true) ⊎ (has_edge edges i j ≡ true) → p (record { from = i; to = j }) ≡ true
    by_cases here others (inr more) = others more
    by_cases here others (inl now) =
        let ends = and_parts (e.from == i) (e.to == j) now in
        let from = eqb-true e.from i ends.0 in
        let to = eqb-true e.to j ends.1 in
        (λ k. p (record { from = sym from k; to = sym to k })) ∙ here

pub edge_ends : (nodes : ℕ) (edges : List Edge) (i j : ℕ) → list_all (ends_within nodes) edges ≡ true → has_edge edges i j ≡ true → (i < nodes) × (j < nodes)
edge_ends nodes edges i j all has =
    let parts = and_parts (nat_lt i nodes) (nat_lt j nodes) (has_edge_passes (ends_within nodes) edges i j all has) in
    (ltb-true i nodes parts.0, ltb-true j nodes parts.1)

-- an edge leads from a lower number to a higher one
abbrev pub rises : Edge → Bool
rises e = nat_lt e.from e.to

-- where each edge rises there is no cycle
pub no_cycle_where_edges_rise : (edges : List Edge) → list_all rises edges ≡ true → HasNoCycle edges
no_cycle_where_edges_rise edges all j back path = none_at_or_above j j back (omega arith) path
  where
    none_at_or_above : (top k : ℕ) (back : List ℕ) → k ≤ top → is_path_to k edges back ≡ true → is_among top back ≡ false
    none_at_or_above top k [] low path = refl
    none_at_or_above top k (i ∷ back) low path =
        let parts = and_parts (has_edge edges i k) (is_path_to i edges back) path in
        let lower : i < k = ltb-true i k (has_edge_passes rises edges i k all parts.0) in
        or_from (i == top) (is_among top back) (ne_eqb i top (λ e. omega arith)) (none_at_or_above top i back (omega arith) parts.1)
