-- Levels along the order.
use Rattle.std.proofs.Common.{◌≡◌, ◌+◌, ◌<◌, ◌≤◌, ◌==◌, ℕ, List, [], ◌∷◌, ◌++◌, length, get_or, set, max, take, fold, replicate, Bool, true, false, not, ◌&&◌, ◌||◌, refl, sym, ap, subst, ◌∙◌, inl, inr, ◌⊎◌, arith, get_or-set_same, get_or-set_other, append-nil, append_assoc, nat_lt}
use Rattle.std.proofs.lemmas.Bool.{cases_eq, cases_lt, eq-eqb, eqb-true, and_parts, ltb-true, or_cases}
use Rattle.std.proofs.lemmas.List.{length-set, length-replicate}
use Rattle.std.proofs.lemmas.List.Sums.{fold_more}
use Rattle.plan_graph.specs.declared.node.Edge.{Edge}
use Rattle.plan_graph.specs.Graphs.{has_edge, is_among, is_path_to, IsLevel}
use Rattle.plan_graph.specs.GraphLaws.{has_edge_passes}
use Rattle.order_levels.specs.Sets.{all_below, sources_of, level_over, levels_along}
use Rattle.order_levels.proofs.EdgeLemmas.{among_push, sources_are}
use Rattle.order_levels.proofs.OrderLaws.{sources_among, keeps_edges}

-- one source more
pub level_over_more : (levels sources : List ℕ) (i m : ℕ) → i < length sources → m ≡ get_or sources i 0 → level_over levels (take (i + 1) sources) ≡ max (level_over levels (take i sources)) (get_or levels m 0 + 1)
level_over_more levels sources i m within is =
    fold_more (λ most k. max most (get_or levels k 0 + 1)) 0 sources i 0 within
    ∙ ap (λ k. max (level_over levels (take i sources)) (get_or levels k 0 + 1)) (sym is)

-- one node of the order more
pub levels_along_more : (sources : List (List ℕ)) (levels order : List ℕ) (i : ℕ) → i < length order
    → levels_along sources levels (take (i + 1) order)
    ≡ set (levels_along sources levels (take i order)) (get_or order i 0) (level_over (levels_along sources levels (take i order)) (get_or sources (get_or order i 0) []))
levels_along_more sources levels order i within = fold_more (λ (so_far : List ℕ) (n : ℕ). set so_far n (level_over so_far (get_or sources n []))) levels order i 0 within

pub small_set : (levels : List ℕ) (n level top : ℕ) → n < length levels → ((m : ℕ) → get_or levels m 0 ≤ top) → level ≤ top + 1 → (m : ℕ) → get_or (set levels n level) m 0 ≤ top + 1
small_set levels n level top within small low m = by_eq (cases_eq m n)
  where
    by_eq : (m ≡ n) ⊎ (m ≡ n → ⊥) → get_or (set levels n level) m 0 ≤ top + 1
    by_eq (inl e) = let here : get_or (set levels n level) m 0 ≡ level = ap (λ k. get_or (set levels n level) k 0) e ∙ get_or-set_same levels n level 0 within in omega arith
    by_eq (inr other) = let there = get_or-set_other levels n m level 0 other in let had = small m in omega arith

-- ---- the greatest of the sources

abbrev over_from : List ℕ → ℕ → List ℕ → ℕ
over_from levels most sources = fold (λ most m. max most (get_or levels m 0 + 1)) most sources

-- it is no less than it was, and than what is over each source
over_at_least : (levels sources : List ℕ) (most : ℕ) → most ≤ over_from levels most sources
over_at_least levels [] most = omega arith
over_at_least levels (m ∷ sources) most = let more = over_at_least levels sources (max most (get_or levels m 0 + 1)) in omega arith

over_each : (levels sources : List ℕ) (most m : ℕ) → is_among m sources ≡ true → get_or levels m 0 + 1 ≤ over_from levels most sources
over_each levels [] most m among = absurd (let e : false ≡ true = among in cc)
over_each levels (k ∷ sources) most m among = by_cases (λ others. over_each levels sources (max most (get_or levels k 0 + 1)) m others) (or_cases (k == m) (is_among m sources) among)
  where
    by_cases : (is_among m sources ≡ true → get_or levels m 0 + 1 ≤ over_from levels (max most (get_or levels k 0 + 1)) sources)
        → ((k == m) ≡ true) ⊎ (is_among m sources ≡ true) → get_or levels m 0 + 1 ≤ over_from levels (max most (get_or levels k 0 + 1)) sources
    by_cases more (inl e) =
        let same = ap (λ j. get_or levels j 0) (eqb-true k m e) in
        let least = over_at_least levels sources (max most (get_or levels k 0 + 1)) in
        omega arith
    by_cases more (inr others) = more others

-- it is what it was, or stands just over some source
abbrev IsOver : List ℕ → List ℕ → ℕ → ℕ → Type 0
IsOver levels sources most top = (top ≡ most) ⊎ ((m : ℕ) × (is_among m sources ≡ true) × (top ≡ get_or levels m 0 + 1))

over_some : (levels sources : List ℕ) (most : ℕ) → IsOver levels sources most (over_from levels most sources)
over_some levels [] most = inl refl
over_some levels (k ∷ sources) most = by_cases (over_some levels sources (max most (get_or levels k 0 + 1)))
  where
    or_true : (b : Bool) → (b || true) ≡ true
    or_true true = refl
    or_true false = refl

    first : is_among k (k ∷ sources) ≡ true
    first = ap (λ (b : Bool). b || is_among k sources) (eq-eqb k k refl)

    by_max : (top : ℕ) → top ≡ max most (get_or levels k 0 + 1) → (most < get_or levels k 0 + 1) ⊎ (get_or levels k 0 + 1 ≤ most) → IsOver levels (k ∷ sources) most top
    by_max top e (inl less) = inr (k, first, omega arith)
    by_max top e (inr more) = inl (omega arith)

    by_cases : IsOver levels sources (max most (get_or levels k 0 + 1)) (over_from levels (max most (get_or levels k 0 + 1)) sources) → IsOver levels (k ∷ sources) most (over_from levels (max most (get_or levels k 0 + 1)) sources)
    by_cases (inl e) = by_max (over_from levels (max most (get_or levels k 0 + 1)) sources) e (cases_lt most (get_or levels k 0 + 1))
    by_cases (inr some) = inr (some.0, ap (λ (b : Bool). (k == some.0) || b) some.1 ∙ or_true (k == some.0), some.2)

-- ---- the level of a node over those of its sources

pub level_is_over : (edges : List Edge) (levels : List ℕ) (n : ℕ) → ((m : ℕ) → has_edge edges m n ≡ true → IsLevel edges m (get_or levels m 0))
    → IsLevel edges n (level_over levels (sources_of n edges))
level_is_over edges levels n known = by_cases (over_some levels (sources_of n edges) 0)
  where
    longest : (back : List ℕ) → is_path_to n edges back ≡ true → length back ≤ level_over levels (sources_of n edges)
    longest [] path = omega arith
    longest (m ∷ back) path =
        let parts = and_parts (has_edge edges m n) (is_path_to m edges back) path in
        let so_far = (known m parts.0).longest back parts.1 in
        let over = over_each levels (sources_of n edges) 0 m (sources_are n m edges ∙ parts.0) in
        omega arith

    by_cases : IsOver levels (sources_of n edges) 0 (level_over levels (sources_of n edges)) → IsLevel edges n (level_over levels (sources_of n edges))
    by_cases (inl e) = record { path = []; is_path = refl; so_long = sym e; longest = longest }
    by_cases (inr some) =
        let edge : has_edge edges some.0 n ≡ true = sym (sources_are n some.0 edges) ∙ some.1 in
        let before = known some.0 edge in
        record {
          path = some.0 ∷ before.path;
          is_path = (λ i. edge i && before.is_path i);
          so_long = let so_long = before.so_long in let top = some.2 in omega arith;
          longest = longest;
        }

-- ---- along the order

known_on : (nodes : ℕ) (edges : List Edge) (sources : List (List ℕ)) → ((n : ℕ) → get_or sources n [] ≡ sources_of n edges)
    → (order done levels : List ℕ) → length levels ≡ nodes → all_below nodes order ≡ true → keeps_edges edges done order ≡ true
    → ((m : ℕ) → is_among m done ≡ true → IsLevel edges m (get_or levels m 0))
    → (m : ℕ) → is_among m (done ++ order) ≡ true → IsLevel edges m (get_or (levels_along sources levels order) m 0)
known_on nodes edges sources lists [] done levels len below keeps known m among = known m (ap (is_among m) (sym (append-nil done)) ∙ among)
known_on nodes edges sources lists (n ∷ order) done levels len below keeps known m among =
    known_on nodes edges sources lists order (done ++ n ∷ []) levels' (length-set levels n level ∙ len) lower.1 parts.1 known' m (ap (is_among m) (append_assoc done (n ∷ []) order) ∙ among)
  where
    level : ℕ
    level = level_over levels (get_or sources n [])

    levels' : List ℕ
    levels' = set levels n level

    lower : (nat_lt n nodes ≡ true) × (all_below nodes order ≡ true)
    lower = and_parts (nat_lt n nodes) (all_below nodes order) below

    parts : ((not (is_among n done) && sources_among edges done n) ≡ true) × (keeps_edges edges (done ++ n ∷ []) order ≡ true)
    parts = and_parts (not (is_among n done) && sources_among edges done n) (keeps_edges edges (done ++ n ∷ []) order) keeps

    ready : (not (is_among n done) ≡ true) × (sources_among edges done n ≡ true)
    ready = and_parts (not (is_among n done)) (sources_among edges done n) parts.0

    is_done : (k : ℕ) → has_edge edges k n ≡ true → is_among k done ≡ true
    is_done k edge = ap (λ (b : Bool). not b || is_among k done) (sym (eq-eqb n n refl)) ∙ has_edge_passes (λ (e : Edge). not (e.to == n) || is_among e.from done) edges k n ready.1 edge

    here : IsLevel edges n level
    here = subst (λ (xs : List ℕ). IsLevel edges n (level_over levels xs)) (sym (lists n)) (level_is_over edges levels n (λ k edge. known k (is_done k edge)))

    known' : (k : ℕ) → is_among k (done ++ n ∷ []) ≡ true → IsLevel edges k (get_or levels' k 0)
    known' k had = by_eq (cases_eq k n)
      where
        by_eq : (k ≡ n) ⊎ (k ≡ n → ⊥) → IsLevel edges k (get_or levels' k 0)
        by_eq (inl e) =
            let within : n < length levels = let less = ltb-true n nodes lower.0 in omega arith in
            subst (λ j. IsLevel edges j (get_or levels' j 0)) (sym e) (subst (λ j. IsLevel edges n j) (sym (get_or-set_same levels n level 0 within)) here)
        by_eq (inr other) =
            let old : is_among k done ≡ true = drop_last (or_cases (is_among k done) (n == k) (sym (among_push k n done) ∙ had)) in
            subst (λ j. IsLevel edges k j) (sym (get_or-set_other levels n k level 0 other)) (known k old)
          where
            drop_last : (is_among k done ≡ true) ⊎ ((n == k) ≡ true) → is_among k done ≡ true
            drop_last (inl e) = e
            drop_last (inr e) = absurd (other (sym (eqb-true n k e)))

pub levels_are : (nodes : ℕ) (edges : List Edge) (sources : List (List ℕ)) (order : List ℕ) → ((n : ℕ) → get_or sources n [] ≡ sources_of n edges)
    → all_below nodes order ≡ true → keeps_edges edges [] order ≡ true
    → (m : ℕ) → is_among m order ≡ true → IsLevel edges m (get_or (levels_along sources (replicate nodes 0) order) m 0)
levels_are nodes edges sources order lists below keeps m among =
    known_on nodes edges sources lists order [] (replicate nodes 0) (length-replicate nodes 0) below keeps (λ k none. absurd (let e : false ≡ true = none in cc)) m among
