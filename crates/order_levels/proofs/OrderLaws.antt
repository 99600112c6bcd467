-- Every node runs where there is no cycle, and each after all that it waits for.
use Rattle.std.proofs.Common.{◌≡◌, ◌+◌, ◌<◌, ◌≤◌, ◌==◌, ℕ, zero, suc, List, [], ◌∷◌, ◌++◌, length, Bool, true, false, not, ◌&&◌, ◌||◌, nat_lt, Option, Some, None, refl, sym, ap, ◌∙◌, inl, inr, ◌⊎◌, arith, append_assoc, append-nil}
use Rattle.std.specs.List.{list_all}
use Rattle.std.proofs.lemmas.Bool.{cases_Bool, eq-eqb, and_parts, and_from, and_cases, not-true, not-false, not_from_false, lt-ltb, or_parts}
use Rattle.std.proofs.lemmas.List.{length_push}
use Rattle.plan_graph.specs.declared.node.Edge.{Edge}
use Rattle.plan_graph.specs.Graphs.{ends_within, joins, has_edge, is_among, is_path_to, HasNoCycle}
use Rattle.plan_graph.specs.GraphLaws.{edge_ends}
use Rattle.order_levels.specs.Settling.{first_below, is_ready, run_next, run_turns, all_run}
use Rattle.order_levels.specs.Sets.{all_below}
use Rattle.order_levels.proofs.FirstLemmas.{found, not_found}
use Rattle.order_levels.proofs.StallLemmas.{below_push}
use Rattle.order_levels.proofs.Pigeons.{is_distinct, no_longer, distinct_push}

-- ---- after as many turns as there are nodes, none is ready

pub none_ready_after : (turns nodes : ℕ) (edges : List Edge) (ran : List ℕ) → nodes ≤ length ran + turns → is_distinct ran ≡ true → all_below nodes ran ≡ true
    → (n : ℕ) → n < nodes → is_ready edges (run_turns turns nodes edges ran) n ≡ false
none_ready_after zero nodes edges ran many distinct below n less = by_test (cases_Bool (is_among n ran))
  where
    by_test : (is_among n ran ≡ true) ⊎ (is_among n ran ≡ false) → is_ready edges ran n ≡ false
    by_test (inl e) = ap (λ (b : Bool). not b && list_all (λ (d : Edge). not (d.to == n) || is_among d.from ran) edges) e
    by_test (inr e) = absurd (let long = no_longer nodes (n ∷ ran) (and_from (nat_lt n nodes) (all_below nodes ran) (lt-ltb n nodes less) below) (and_from (not (is_among n ran)) (is_distinct ran) (not_from_false (is_among n ran) e) distinct) in omega arith)
none_ready_after (suc turns) nodes edges ran many distinct below n less =
    by_next (λ m many' distinct' below'. none_ready_after turns nodes edges (ran ++ m ∷ []) many' distinct' below' n less) (first_below (is_ready edges ran) nodes) refl
  where
    by_next : ((m : ℕ) → nodes ≤ length (ran ++ m ∷ []) + turns → is_distinct (ran ++ m ∷ []) ≡ true → all_below nodes (ran ++ m ∷ []) ≡ true → is_ready edges (run_turns turns nodes edges (ran ++ m ∷ [])) n ≡ false)
        → (o : Option ℕ) → first_below (is_ready edges ran) nodes ≡ o → is_ready edges (run_next ran o (run_turns turns nodes edges)) n ≡ false
    by_next more None is = not_found (is_ready edges ran) nodes n is less
    by_next more (Some m) is =
        let next = found (is_ready edges ran) nodes m is in
        let fresh = not-true (is_among m ran) (and_parts (not (is_among m ran)) (list_all (λ (d : Edge). not (d.to == m) || is_among d.from ran) edges) next.1).0 in
        let long = length_push ran m in
        more m (omega arith) (distinct_push ran m distinct fresh) (below_push nodes m ran below next.0)

-- ---- a node that has not run waits for another

pub waits_for_one : (edges : List Edge) (ran : List ℕ) (n : ℕ) → list_all (λ (e : Edge). not (e.to == n) || is_among e.from ran) edges ≡ false
    → (m : ℕ) × (has_edge edges m n ≡ true) × (is_among m ran ≡ false)
waits_for_one [] ran n waits = absurd (let e : true ≡ false = waits in cc)
waits_for_one (e ∷ edges) ran n waits = by_cases (λ others. waits_for_one edges ran n others) (and_cases (not (e.to == n) || is_among e.from ran) (list_all (λ (d : Edge). not (d.to == n) || is_among d.from ran) edges) waits)
  where
    or_true : (b : Bool) → (b || true) ≡ true
    or_true true = refl
    or_true false = refl

    by_cases : (list_all (λ (d : Edge). not (d.to == n) || is_among d.from ran) edges ≡ false → (m : ℕ) × (has_edge edges m n ≡ true) × (is_among m ran ≡ false))
        → ((not (e.to == n) || is_among e.from ran) ≡ false) ⊎ (list_all (λ (d : Edge). not (d.to == n) || is_among d.from ran) edges ≡ false)
        → (m : ℕ) × (has_edge (e ∷ edges) m n ≡ true) × (is_among m ran ≡ false)
    by_cases more (inl here) =
        let parts = or_parts (not (e.to == n)) (is_among e.from ran) here in
        (e.from, (λ i. (eq-eqb e.from e.from refl i && not-false (e.to == n) parts.0 i) || has_edge edges e.from n), parts.1)
    by_cases more (inr others) =
        let found_one = more others in
        (found_one.0, ap (λ (b : Bool). joins found_one.0 n e || b) found_one.1 ∙ or_true (joins found_one.0 n e), found_one.2)

-- ---- paths of any length, back from a node that has not run

abbrev pub HasLongPath : ℕ → List Edge → ℕ → ℕ → Type 0
HasLongPath nodes edges many n = (back : List ℕ) × (is_path_to n edges back ≡ true) × (length back ≡ many) × (all_below nodes back ≡ true)

pub long_path : (nodes : ℕ) (edges : List Edge) (ran : List ℕ) → list_all (ends_within nodes) edges ≡ true
    → ((n : ℕ) → n < nodes → is_ready edges ran n ≡ false)
    → (many n : ℕ) → n < nodes → is_among n ran ≡ false → HasLongPath nodes edges many n
long_path nodes edges ran ends none zero n less left = ([], refl, refl, refl)
long_path nodes edges ran ends none (suc many) n less left =
    let one = waits_for_one edges ran n (waits (and_cases (not (is_among n ran)) (list_all (λ (d : Edge). not (d.to == n) || is_among d.from ran) edges) (none n less))) in
    let lower = (edge_ends nodes edges one.0 n ends one.1).0 in
    let further = long_path nodes edges ran ends none many one.0 lower one.2 in
    (one.0 ∷ further.0, and_from (has_edge edges one.0 n) (is_path_to one.0 edges further.0) one.1 further.1, ap suc further.2, and_from (nat_lt one.0 nodes) (all_below nodes further.0) (lt-ltb one.0 nodes lower) further.3)
  where
    waits : (not (is_among n ran) ≡ false) ⊎ (list_all (λ (d : Edge). not (d.to == n) || is_among d.from ran) edges ≡ false)
        → list_all (λ (d : Edge). not (d.to == n) || is_among d.from ran) edges ≡ false
    waits (inl has) = absurd (let both : true ≡ false = sym (not-false (is_among n ran) has) ∙ left in cc)
    waits (inr e) = e

-- without a cycle the nodes of a path differ
pub path_is_distinct : (edges : List Edge) → HasNoCycle edges → (n : ℕ) (back : List ℕ) → is_path_to n edges back ≡ true → is_distinct (n ∷ back) ≡ true
path_is_distinct edges no_cycle n [] path = refl
path_is_distinct edges no_cycle n (m ∷ back) path =
    and_from (not (is_among n (m ∷ back))) (is_distinct (m ∷ back)) (not_from_false (is_among n (m ∷ back)) (no_cycle n (m ∷ back) path))
    (path_is_distinct edges no_cycle m back (and_parts (has_edge edges m n) (is_path_to m edges back) path).1)

pub each_runs : (nodes : ℕ) (edges : List Edge) → list_all (ends_within nodes) edges ≡ true → HasNoCycle edges → (n : ℕ) → n < nodes → is_among n (all_run nodes edges) ≡ true
each_runs nodes edges ends no_cycle n less = by_test (cases_Bool (is_among n (all_run nodes edges)))
  where
    by_test : (is_among n (all_run nodes edges) ≡ true) ⊎ (is_among n (all_run nodes edges) ≡ false) → is_among n (all_run nodes edges) ≡ true
    by_test (inl e) = e
    by_test (inr e) =
        let path = long_path nodes edges (all_run nodes edges) ends (none_ready_after nodes nodes edges [] (omega arith) refl refl) nodes n less e in
        let long = no_longer nodes (n ∷ path.0) (and_from (nat_lt n nodes) (all_below nodes path.0) (lt-ltb n nodes less) path.3) (path_is_distinct edges no_cycle n path.0 path.1) in
        let so_long = path.2 in
        absurd (omega arith)

-- ---- each node after all that it waits for

abbrev pub sources_among : List Edge → List ℕ → ℕ → Bool
sources_among edges done n = list_all (λ (e : Edge). not (e.to == n) || is_among e.from done) edges

-- in turn, each has its sources among those done, and is not among them
abbrev pub keeps_edges : List Edge → List ℕ → List ℕ → Bool
keeps_edges edges done [] = true
keeps_edges edges done (n ∷ order) = (not (is_among n done) && sources_among edges done n) && keeps_edges edges (done ++ n ∷ []) order

keeps_push : (edges : List Edge) (done order : List ℕ) (n : ℕ) → keeps_edges edges done order ≡ true → is_ready edges (done ++ order) n ≡ true → keeps_edges edges done (order ++ n ∷ []) ≡ true
keeps_push edges done [] n keeps ready = and_from (not (is_among n done) && sources_among edges done n) true (ap (λ (xs : List ℕ). is_ready edges xs n) (sym (append-nil done)) ∙ ready) refl
keeps_push edges done (m ∷ order) n keeps ready =
    let parts = and_parts (not (is_among m done) && sources_among edges done m) (keeps_edges edges (done ++ m ∷ []) order) keeps in
    and_from (not (is_among m done) && sources_among edges done m) (keeps_edges edges (done ++ m ∷ []) (order ++ n ∷ [])) parts.0
    (keeps_push edges (done ++ m ∷ []) order n parts.1 (ap (λ (xs : List ℕ). is_ready edges xs n) (append_assoc done (m ∷ []) order) ∙ ready))

pub run_keeps_edges : (turns nodes : ℕ) (edges : List Edge) (ran : List ℕ) → keeps_edges edges [] ran ≡ true → keeps_edges edges [] (run_turns turns nodes edges ran) ≡ true
run_keeps_edges zero nodes edges ran keeps = keeps
run_keeps_edges (suc turns) nodes edges ran keeps = by_next (λ n k. run_keeps_edges turns nodes edges (ran ++ n ∷ []) k) (first_below (is_ready edges ran) nodes) refl
  where
    by_next : ((n : ℕ) → keeps_edges edges [] (ran ++ n ∷ []) ≡ true → keeps_edges edges [] (run_turns turns nodes edges (ran ++ n ∷ [])) ≡ true)
        → (o : Option ℕ) → first_below (is_ready edges ran) nodes ≡ o → keeps_edges edges [] (run_next ran o (run_turns turns nodes edges)) ≡ true
    by_next more None is = keeps
    by_next more (Some n) is = more n (keeps_push edges [] ran n keeps (found (is_ready edges ran) nodes n is).1)
