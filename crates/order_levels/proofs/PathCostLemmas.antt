-- Costliest paths along the order.
use Rattle.std.proofs.Common.{◌≡◌, ◌+◌, ◌<◌, ◌≤◌, ◌==◌, ℕ, List, [], ◌∷◌, ◌++◌, length, get_or, set, max, take, fold, replicate, Bool, true, false, not, ◌&&◌, ◌||◌, refl, sym, ap, subst, ◌∙◌, inl, inr, ◌⊎◌, arith, get_or-set_same, get_or-set_other, append-nil, append_assoc, nat_lt}
use Rattle.std.proofs.lemmas.Bool.{cases_eq, cases_lt, eq-eqb, eqb-true, and_parts, ltb-true, or_cases}
use Rattle.std.proofs.lemmas.List.{length-set, length-replicate}
use Rattle.std.proofs.lemmas.List.Sums.{fold_more}
use Rattle.plan_graph.specs.declared.node.Edge.{Edge}
use Rattle.plan_graph.specs.Graphs.{has_edge, is_among, is_path_to, IsCostliest, cost_of_all}
use Rattle.plan_graph.specs.GraphLaws.{has_edge_passes}
use Rattle.order_levels.specs.Sets.{all_below, sources_of, greatest_at, costs_along}
use Rattle.order_levels.proofs.EdgeLemmas.{among_push, sources_are}
use Rattle.order_levels.proofs.OrderLaws.{sources_among, keeps_edges}

-- one source more
pub greatest_more : (paths sources : List ℕ) (i m : ℕ) → i < length sources → m ≡ get_or sources i 0 → greatest_at paths (take (i + 1) sources) ≡ max (greatest_at paths (take i sources)) (get_or paths m 0)
greatest_more paths sources i m within is =
    fold_more (λ most k. max most (get_or paths k 0)) 0 sources i 0 within
    ∙ ap (λ k. max (greatest_at paths (take i sources)) (get_or paths k 0)) (sym is)

-- one node of the order more
pub costs_along_more : (costs : List ℕ) (sources : List (List ℕ)) (paths order : List ℕ) (i : ℕ) → i < length order
    → costs_along costs sources paths (take (i + 1) order)
    ≡ set (costs_along costs sources paths (take i order)) (get_or order i 0)
    (get_or costs (get_or order i 0) 0 + greatest_at (costs_along costs sources paths (take i order)) (get_or sources (get_or order i 0) []))
costs_along_more costs sources paths order i within = fold_more (λ (so_far : List ℕ) (n : ℕ). set so_far n (get_or costs n 0 + greatest_at so_far (get_or sources n []))) paths order i 0 within

-- what was below a bound is below it with one more that is
pub small_set : (paths : List ℕ) (n path top more : ℕ) → n < length paths → ((m : ℕ) → get_or paths m 0 ≤ top) → path ≤ top + more → (m : ℕ) → get_or (set paths n path) m 0 ≤ top + more
small_set paths n path top more within small low m = by_eq (cases_eq m n)
  where
    by_eq : (m ≡ n) ⊎ (m ≡ n → ⊥) → get_or (set paths n path) m 0 ≤ top + more
    by_eq (inl e) = let here : get_or (set paths n path) m 0 ≡ path = ap (λ k. get_or (set paths n path) k 0) e ∙ get_or-set_same paths n path 0 within in omega arith
    by_eq (inr other) = let there = get_or-set_other paths n m path 0 other in let had = small m in omega arith

-- ---- the greatest of the sources

abbrev over_from : List ℕ → ℕ → List ℕ → ℕ
over_from paths most sources = fold (λ most m. max most (get_or paths m 0)) most sources

-- it is no less than it was, and than what is over each source
over_at_least : (paths sources : List ℕ) (most : ℕ) → most ≤ over_from paths most sources
over_at_least paths [] most = omega arith
over_at_least paths (m ∷ sources) most = let more = over_at_least paths sources (max most (get_or paths m 0)) in omega arith

over_each : (paths sources : List ℕ) (most m : ℕ) → is_among m sources ≡ true → get_or paths m 0 ≤ over_from paths most sources
over_each paths [] most m among = absurd (let e : false ≡ true = among in cc)
over_each paths (k ∷ sources) most m among = by_cases (λ others. over_each paths sources (max most (get_or paths k 0)) m others) (or_cases (k == m) (is_among m sources) among)
  where
    by_cases : (is_among m sources ≡ true → get_or paths m 0 ≤ over_from paths (max most (get_or paths k 0)) sources)
        → ((k == m) ≡ true) ⊎ (is_among m sources ≡ true) → get_or paths m 0 ≤ over_from paths (max most (get_or paths k 0)) sources
    by_cases more (inl e) =
        let same = ap (λ j. get_or paths j 0) (eqb-true k m e) in
        let least = over_at_least paths sources (max most (get_or paths k 0)) in
        omega arith
    by_cases more (inr others) = more others

-- it is what it was, or stands just over some source
abbrev IsOver : List ℕ → List ℕ → ℕ → ℕ → Type 0
IsOver paths sources most top = (top ≡ most) ⊎ ((m : ℕ) × (is_among m sources ≡ true) × (top ≡ get_or paths m 0))

over_some : (paths sources : List ℕ) (most : ℕ) → IsOver paths sources most (over_from paths most sources)
over_some paths [] most = inl refl
over_some paths (k ∷ sources) most = by_cases (over_some paths sources (max most (get_or paths k 0)))
  where
    or_true : (b : Bool) → (b || true) ≡ true
    or_true true = refl
    or_true false = refl

    first : is_among k (k ∷ sources) ≡ true
    first = ap (λ (b : Bool). b || is_among k sources) (eq-eqb k k refl)

    by_max : (top : ℕ) → top ≡ max most (get_or paths k 0) → (most < get_or paths k 0) ⊎ (get_or paths k 0 ≤ most) → IsOver paths (k ∷ sources) most top
    by_max top e (inl less) = inr (k, first, omega arith)
    by_max top e (inr more) = inl (omega arith)

    by_cases : IsOver paths sources (max most (get_or paths k 0)) (over_from paths (max most (get_or paths k 0)) sources) → IsOver paths (k ∷ sources) most (over_from paths (max most (get_or paths k 0)) sources)
    by_cases (inl e) = by_max (over_from paths (max most (get_or paths k 0)) sources) e (cases_lt most (get_or paths k 0))
    by_cases (inr some) = inr (some.0, ap (λ (b : Bool). (k == some.0) || b) some.1 ∙ or_true (k == some.0), some.2)

-- ---- the costliest path over those of the sources

pub costliest_over : (cost : ℕ → ℕ) (edges : List Edge) (paths : List ℕ) (n : ℕ) → ((m : ℕ) → has_edge edges m n ≡ true → IsCostliest cost edges m (get_or paths m 0))
    → IsCostliest cost edges n (cost n + greatest_at paths (sources_of n edges))
costliest_over cost edges paths n known = by_cases (over_some paths (sources_of n edges) 0)
  where
    longest : (back : List ℕ) → is_path_to n edges back ≡ true → cost n + cost_of_all cost back ≤ cost n + greatest_at paths (sources_of n edges)
    longest [] path = omega arith
    longest (m ∷ back) path =
        let parts = and_parts (has_edge edges m n) (is_path_to m edges back) path in
        let so_far = (known m parts.0).longest back parts.1 in
        let over = over_each paths (sources_of n edges) 0 m (sources_are n m edges ∙ parts.0) in
        omega arith

    by_cases : IsOver paths (sources_of n edges) 0 (greatest_at paths (sources_of n edges)) → IsCostliest cost edges n (cost n + greatest_at paths (sources_of n edges))
    by_cases (inl e) = record { path = []; is_path = refl; so_much = ap (λ k. cost n + k) (sym e); longest = longest }
    by_cases (inr some) =
        let edge : has_edge edges some.0 n ≡ true = sym (sources_are n some.0 edges) ∙ some.1 in
        let before = known some.0 edge in
        record {
          path = some.0 ∷ before.path;
          is_path = (λ i. edge i && before.is_path i);
          so_much = ap (λ k. cost n + k) (before.so_much ∙ sym some.2);
          longest = longest;
        }

-- ---- along the order

known_on : (costs : List ℕ) (nodes : ℕ) (edges : List Edge) (sources : List (List ℕ)) → ((n : ℕ) → get_or sources n [] ≡ sources_of n edges)
    → (order done paths : List ℕ) → length paths ≡ nodes → all_below nodes order ≡ true → keeps_edges edges done order ≡ true
    → ((m : ℕ) → is_among m done ≡ true → IsCostliest (λ k. get_or costs k 0) edges m (get_or paths m 0))
    → (m : ℕ) → is_among m (done ++ order) ≡ true → IsCostliest (λ k. get_or costs k 0) edges m (get_or (costs_along costs sources paths order) m 0)
known_on costs nodes edges sources lists [] done paths len below keeps known m among = known m (ap (is_among m) (sym (append-nil done)) ∙ among)
known_on costs nodes edges sources lists (n ∷ order) done paths len below keeps known m among =
    known_on costs nodes edges sources lists order (done ++ n ∷ []) paths' (length-set paths n most ∙ len) lower.1 parts.1 known' m (ap (is_among m) (append_assoc done (n ∷ []) order) ∙ among)
  where
    most : ℕ
    most = get_or costs n 0 + greatest_at paths (get_or sources n [])

    paths' : List ℕ
    paths' = set paths n most

    lower : (nat_lt n nodes ≡ true) × (all_below nodes order ≡ true)
    lower = and_parts (nat_lt n nodes) (all_below nodes order) below

    parts : ((not (is_among n done) && sources_among edges done n) ≡ true) × (keeps_edges edges (done ++ n ∷ []) order ≡ true)
    parts = and_parts (not (is_among n done) && sources_among edges done n) (keeps_edges edges (done ++ n ∷ []) order) keeps

    ready : (not (is_among n done) ≡ true) × (sources_among edges done n ≡ true)
    ready = and_parts (not (is_among n done)) (sources_among edges done n) parts.0

    is_done : (k : ℕ) → has_edge edges k n ≡ true → is_among k done ≡ true
    is_done k edge = ap (λ (b : Bool). not b || is_among k done) (sym (eq-eqb n n refl)) ∙ has_edge_passes (λ (e : Edge). not (e.to == n) || is_among e.from done) edges k n ready.1 edge

    here : IsCostliest (λ k. get_or costs k 0) edges n most
    here = subst (λ (xs : List ℕ). IsCostliest (λ k. get_or costs k 0) edges n (get_or costs n 0 + greatest_at paths xs)) (sym (lists n)) (costliest_over (λ k. get_or costs k 0) edges paths n (λ k edge. known k (is_done k edge)))

    known' : (k : ℕ) → is_among k (done ++ n ∷ []) ≡ true → IsCostliest (λ k. get_or costs k 0) edges k (get_or paths' k 0)
    known' k had = by_eq (cases_eq k n)
      where
        by_eq : (k ≡ n) ⊎ (k ≡ n → ⊥) → IsCostliest (λ k. get_or costs k 0) edges k (get_or paths' k 0)
        by_eq (inl e) =
            let within : n < length paths = let less = ltb-true n nodes lower.0 in omega arith in
            subst (λ (j : ℕ). IsCostliest (λ k. get_or costs k 0) edges j (get_or paths' j 0)) (sym e) (subst (λ (j : ℕ). IsCostliest (λ k. get_or costs k 0) edges n j) (sym (get_or-set_same paths n most 0 within)) here)
        by_eq (inr other) =
            let old : is_among k done ≡ true = drop_last (or_cases (is_among k done) (n == k) (sym (among_push k n done) ∙ had)) in
            subst (λ (j : ℕ). IsCostliest (λ k. get_or costs k 0) edges k j) (sym (get_or-set_other paths n k most 0 other)) (known k old)
          where
            drop_last : (is_among k done ≡ true) ⊎ ((n == k) ≡ true) → is_among k done ≡ true
            drop_last (inl e) = e
            drop_last (inr e) = absurd (other (sym (eqb-true n k e)))

pub paths_are : (costs : List ℕ) (nodes : ℕ) (edges : List Edge) (sources : List (List ℕ)) (order : List ℕ) → ((n : ℕ) → get_or sources n [] ≡ sources_of n edges)
    → all_below nodes order ≡ true → keeps_edges edges [] order ≡ true
    → (m : ℕ) → is_among m order ≡ true → IsCostliest (λ k. get_or costs k 0) edges m (get_or (costs_along costs sources (replicate nodes 0) order) m 0)
paths_are costs nodes edges sources order lists below keeps m among =
    known_on costs nodes edges sources lists order [] (replicate nodes 0) (length-replicate nodes 0) below keeps (λ k none. absurd (let e : false ≡ true = none in cc)) m among
