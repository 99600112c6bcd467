-- The walk to a loop, by marks and lists of sources.
use Rattle.std.proofs.Common.{◌≡◌, ◌+◌, ◌<◌, ◌≤◌, ◌==◌, ℕ, zero, suc, List, [], ◌∷◌, ◌++◌, length, get_or, set, min, Bool, true, false, not, cond, ◌&&◌, ◌||◌, nat_lt, Option, Some, None, refl, sym, ap, ◌∙◌, inl, inr, ◌⊎◌, arith, get_or-set_same, get_or-set_other}
use Rattle.std.specs.Option.{IfSome, MatchOption}
use Rattle.std.proofs.lemmas.Bool.{cases_eq, cases_lt, eq-eqb, ne_eqb, and_parts, lt-ltb}
use Rattle.std.proofs.lemmas.List.{length_push}
use Rattle.std.proofs.lemmas.List.Folds.{list_all-append}
use Rattle.plan_graph.specs.declared.node.Edge.{Edge}
use Rattle.plan_graph.specs.Graphs.{is_among}
use Rattle.order_levels.specs.Settling.{first_below, run_next, run_turns, all_run, first_left, first_holder, list_from, walk_turns, is_ready, after_run, Stalls}
use Rattle.order_levels.specs.Sets.{sources_of, all_below, unmarked, holder_in}
use Rattle.order_levels.proofs.FirstLemmas.{first_some, first_agree, found, not_found}
use Rattle.order_levels.proofs.EdgeLemmas.{among_push, sources_are}

-- ---- what runs are nodes

pub below_push : (nodes n : ℕ) (list : List ℕ) → all_below nodes list ≡ true → n < nodes → all_below nodes (list ++ n ∷ []) ≡ true
below_push nodes n list below less = list_all-append (λ m. nat_lt m nodes) list (n ∷ []) ∙ (λ i. below i && (lt-ltb n nodes less i && true))

pub run_below : (turns nodes : ℕ) (edges : List Edge) (ran : List ℕ) → all_below nodes ran ≡ true → all_below nodes (run_turns turns nodes edges ran) ≡ true
run_below zero nodes edges ran below = below
run_below (suc turns) nodes edges ran below = by_next (λ n b. run_below turns nodes edges (ran ++ n ∷ []) b) (first_below (is_ready edges ran) nodes) refl
  where
    by_next : ((n : ℕ) → all_below nodes (ran ++ n ∷ []) ≡ true → all_below nodes (run_turns turns nodes edges (ran ++ n ∷ [])) ≡ true)
        → (o : Option ℕ) → first_below (is_ready edges ran) nodes ≡ o → all_below nodes (run_next ran o (run_turns turns nodes edges)) ≡ true
    by_next more None is = below
    by_next more (Some n) is = more n (below_push nodes n ran below (found (is_ready edges ran) nodes n is).0)

pub all_run_below : (nodes : ℕ) (edges : List Edge) → all_below nodes (all_run nodes edges) ≡ true
all_run_below nodes edges = run_below nodes nodes edges [] refl

pub run_length : (turns nodes : ℕ) (edges : List Edge) (ran : List ℕ) → length (run_turns turns nodes edges ran) ≤ length ran + turns
run_length zero nodes edges ran = omega arith
run_length (suc turns) nodes edges ran = by_next (λ n. run_length turns nodes edges (ran ++ n ∷ [])) (first_below (is_ready edges ran) nodes)
  where
    by_next : ((n : ℕ) → length (run_turns turns nodes edges (ran ++ n ∷ [])) ≤ length (ran ++ n ∷ []) + turns) → (o : Option ℕ) → length (run_next ran o (run_turns turns nodes edges)) ≤ length ran + suc turns
    by_next more None = omega arith
    by_next more (Some n) = let here = more n in let long = length_push ran n in omega arith

-- ---- the first source that is not marked

-- a source more that is marked changes nothing
pub holder_same : (marks : List Bool) (xs : List ℕ) (m nodes : ℕ) → get_or marks m true ≡ true → first_below (unmarked marks (xs ++ m ∷ [])) nodes ≡ first_below (unmarked marks xs) nodes
holder_same marks xs m nodes mark = λ i. first_below (λ j. same j i) nodes
  where
    or_false : (b : Bool) → (b || false) ≡ b
    or_false true = refl
    or_false false = refl

    same : (j : ℕ) → unmarked marks (xs ++ m ∷ []) j ≡ unmarked marks xs j
    same j = ap (λ (b : Bool). not (get_or marks j true) && b) (among_push j m xs) ∙ by_eq (cases_eq m j)
      where
        by_eq : (m ≡ j) ⊎ (m ≡ j → ⊥) → (not (get_or marks j true) && (is_among j xs || (m == j))) ≡ (not (get_or marks j true) && is_among j xs)
        by_eq (inl e) =
            let mark_j : get_or marks j true ≡ true = ap (λ k. get_or marks k true) (sym e) ∙ mark in
            ap (λ (b : Bool). not b && (is_among j xs || (m == j))) mark_j ∙ sym (ap (λ (b : Bool). not b && is_among j xs) mark_j)
        by_eq (inr other) = ap (λ (b : Bool). not (get_or marks j true) && (is_among j xs || b)) (ne_eqb m j other) ∙ ap (λ (b : Bool). not (get_or marks j true) && b) (or_false (is_among j xs))

-- one that is not marked is the least, or the least before it is
pub holder_more : (marks : List Bool) (xs : List ℕ) (m nodes new : ℕ) (least : Option ℕ) → m < nodes → get_or marks m true ≡ false
    → least ≡ first_below (unmarked marks xs) nodes → MatchOption least (new ≡ m) (λ k. new ≡ min k m) → Some new ≡ first_below (unmarked marks (xs ++ m ∷ [])) nodes
holder_more marks xs m nodes new None within mark is least =
    sym (first_some (unmarked marks (xs ++ m ∷ [])) nodes new (omega arith) (here m least mark) (λ j less. before j less))
  where
    here : (m : ℕ) → new ≡ m → get_or marks m true ≡ false → unmarked marks (xs ++ m ∷ []) new ≡ true
    here m e mark = ap (unmarked marks (xs ++ m ∷ [])) e ∙ (λ i. not (mark i) && among_push m m xs i) ∙ by_last (is_among m xs) (eq-eqb m m refl)
      where
        by_last : (b : Bool) → (m == m) ≡ true → (b || (m == m)) ≡ true
        by_last true e = refl
        by_last false e = e

    or_false : (b : Bool) → (b || false) ≡ b
    or_false true = refl
    or_false false = refl

    before : (j : ℕ) → j < new → unmarked marks (xs ++ m ∷ []) j ≡ false
    before j less =
        let other : (m ≡ j → ⊥) = λ e. omega arith in
        ap (λ (b : Bool). not (get_or marks j true) && b) (among_push j m xs ∙ ap (λ (b : Bool). is_among j xs || b) (ne_eqb m j other) ∙ or_false (is_among j xs))
        ∙ not_found (unmarked marks xs) nodes j (sym is) (omega arith)
holder_more marks xs m nodes new (Some k) within mark is least =
    let was = found (unmarked marks xs) nodes k (sym is) in
    sym (first_some (unmarked marks (xs ++ m ∷ [])) nodes new (omega (arith, was.0)) (by_least (cases_lt k m)) (λ j less. before j less))
  where
    or_false : (b : Bool) → (b || false) ≡ b
    or_false true = refl
    or_false false = refl

    or_true : (b : Bool) → (b || true) ≡ true
    or_true true = refl
    or_true false = refl

    by_least : (k < m) ⊎ (m ≤ k) → unmarked marks (xs ++ m ∷ []) new ≡ true
    by_least (inl less) =
        let e : new ≡ k = omega arith in
        let was = and_parts (not (get_or marks k true)) (is_among k xs) (found (unmarked marks xs) nodes k (sym is)).1 in
        ap (unmarked marks (xs ++ m ∷ [])) e ∙ (λ i. was.0 i && among_push k m xs i) ∙ ap (λ (b : Bool). b || (m == k)) was.1
    by_least (inr more) =
        let e : new ≡ m = omega arith in
        ap (unmarked marks (xs ++ m ∷ [])) e ∙ (λ i. not (mark i) && among_push m m xs i) ∙ ap (λ (b : Bool). is_among m xs || b) (eq-eqb m m refl) ∙ or_true (is_among m xs)

    before : (j : ℕ) → j < new → unmarked marks (xs ++ m ∷ []) j ≡ false
    before j less =
        let other : (m ≡ j → ⊥) = λ e. omega arith in
        let lower : j < k = omega arith in
        ap (λ (b : Bool). not (get_or marks j true) && b) (among_push j m xs ∙ ap (λ (b : Bool). is_among j xs || b) (ne_eqb m j other) ∙ or_false (is_among j xs))
        ∙ (found (unmarked marks xs) nodes k (sym is)).2 j lower

-- what is found is within the bound
pub first_within : (p : ℕ → Bool) (many : ℕ) (o : Option ℕ) → o ≡ first_below p many → IfSome o (λ n. n < many)
first_within p many None is = tt
first_within p many (Some n) is = (found p many n (sym is)).0

-- ---- the walk

pub walk_none : (turns : ℕ) (holder : ℕ → Option ℕ) (walked : List ℕ) → walk_turns turns holder walked None ≡ []
walk_none zero holder walked = refl
walk_none (suc turns) holder walked = refl

pub walk_seen : (left turns : ℕ) (holder : ℕ → Option ℕ) (walked : List ℕ) (n : ℕ) → left ≡ suc turns → is_among n walked ≡ true
    → walk_turns left holder walked (Some n) ≡ list_from n walked
walk_seen left turns holder walked n is seen =
    ap (λ k. walk_turns k holder walked (Some n)) is ∙ ap (λ (b : Bool). cond b (list_from n walked) (walk_turns turns holder (walked ++ n ∷ []) (holder n))) seen

pub walk_on : (left turns : ℕ) (holder : ℕ → Option ℕ) (walked : List ℕ) (n : ℕ) → left ≡ suc turns → is_among n walked ≡ false
    → walk_turns turns holder (walked ++ n ∷ []) (holder n) ≡ walk_turns left holder walked (Some n)
walk_on left turns holder walked n is fresh =
    sym (ap (λ k. walk_turns k holder walked (Some n)) is ∙ ap (λ (b : Bool). cond b (list_from n walked) (walk_turns turns holder (walked ++ n ∷ []) (holder n))) fresh)

-- one mark more
pub mark_more : (marks : List Bool) (list : List ℕ) (n m : ℕ) → n < length marks → get_or marks m true ≡ is_among m list → get_or (set marks n true) m true ≡ is_among m (list ++ n ∷ [])
mark_more marks list n m within marked = by_eq (cases_eq m n)
  where
    or_true : (b : Bool) → (b || true) ≡ true
    or_true true = refl
    or_true false = refl

    or_false : (b : Bool) → (b || false) ≡ b
    or_false true = refl
    or_false false = refl

    by_eq : (m ≡ n) ⊎ (m ≡ n → ⊥) → get_or (set marks n true) m true ≡ is_among m (list ++ n ∷ [])
    by_eq (inl e) =
        ap (λ k. get_or (set marks n true) k true) e ∙ get_or-set_same marks n true true within
        ∙ sym (among_push m n list ∙ ap (λ (b : Bool). is_among m list || b) (eq-eqb n m (sym e)) ∙ or_true (is_among m list))
    by_eq (inr other) =
        get_or-set_other marks n m true true other ∙ marked
        ∙ sym (among_push m n list ∙ ap (λ (b : Bool). is_among m list || b) (ne_eqb n m (λ e. other (sym e))) ∙ or_false (is_among m list))

-- the first node that is not marked is the first that has not run
pub first_unmarked_is_left : (nodes : ℕ) (ran : List ℕ) (marks : List Bool) → length marks ≡ nodes → ((m : ℕ) → m < nodes → get_or marks m true ≡ is_among m ran)
    → first_below (λ m. not (get_or marks m true)) (length marks) ≡ first_left nodes ran
first_unmarked_is_left nodes ran marks len marked = ap (first_below (λ m. not (get_or marks m true))) len ∙ first_agree nodes (λ m less. ap not (marked m less))

-- marks and lists tell what holds each node up
pub holders_same : (nodes : ℕ) (edges : List Edge) (ran : List ℕ) (sources : List (List ℕ)) (marks : List Bool)
    → length sources ≡ nodes → ((n : ℕ) → get_or sources n [] ≡ sources_of n edges) → ((m : ℕ) → m < nodes → get_or marks m true ≡ is_among m ran)
    → (n : ℕ) → holder_in sources marks n ≡ first_holder nodes edges ran n
holders_same nodes edges ran sources marks len lists marked n =
    ap (first_below (unmarked marks (get_or sources n []))) len ∙ first_agree nodes (λ m less. (λ i. not (marked m less i) && is_among m (lists n i)) ∙ ap (λ (b : Bool). not (is_among m ran) && b) (sources_are n m edges))

-- the loop that the walk finds
pub walk_is_loop : (nodes : ℕ) (edges : List Edge) (ran : List ℕ) (sources : List (List ℕ)) (marks : List Bool) (start : ℕ) (walked : List ℕ)
    → length sources ≡ nodes → ((n : ℕ) → get_or sources n [] ≡ sources_of n edges) → ((m : ℕ) → m < nodes → get_or marks m true ≡ is_among m ran)
    → walked ≡ walk_turns (suc (length sources)) (holder_in sources marks) [] (Some start)
    → first_left nodes ran ≡ Some start
    → after_run nodes edges ran (first_left nodes ran) ≡ Stalls walked
walk_is_loop nodes edges ran sources marks start walked len lists marked is left =
    ap (after_run nodes edges ran) left
    ∙ ap Stalls (sym (is ∙ (λ i. walk_turns (suc (len i)) (λ n. holders_same nodes edges ran sources marks len lists marked n i) [] (Some start))))
