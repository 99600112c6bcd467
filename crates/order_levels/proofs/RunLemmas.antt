-- The turns of settling, by lists, counts and the set of those that are ready.
use Rattle.std.proofs.Common.{◌≡◌, ◌+◌, ◌*◌, ◌<◌, ◌≤◌, ◌==◌, ℕ, zero, suc, List, [], ◌∷◌, ◌++◌, length, get_or, count_by, Bool, true, false, not, ◌&&◌, ◌||◌, nat_lt, Option, Some, None, refl, sym, ap, subst, ◌∙◌, inl, inr, ◌⊎◌, arith}
use Rattle.std.specs.List.{list_all}
use Rattle.std.proofs.lemmas.Bool.{cases_eq, cases_lt, cases_Bool, eq-eqb, ne_eqb, eqb-true, lt-ltb, le-ltb, ltb-true, and_parts, or_cases, not-true, not-false}
use Rattle.plan_graph.specs.declared.node.Edge.{Edge}
use Rattle.plan_graph.specs.Graphs.{ends_within, has_edge, is_among}
use Rattle.plan_graph.specs.GraphLaws.{edge_ends}
use Rattle.order_levels.specs.Settling.{first_below, is_ready, run_next, run_turns}
use Rattle.node_sets.specs.Sets.{is_member}
use Rattle.order_levels.specs.Sets.{targets_of, waits_left, all_below}
use Rattle.order_levels.specs.Running.{Running, CanRun}
use Rattle.order_levels.proofs.FirstLemmas.{first_some, first_none}
use Rattle.order_levels.proofs.EdgeLemmas.{among_push, targets_are, targets_below, counted_among, ready_by_count, one_less_waits, waits_at_first}

-- ---- which node is next

pub none_is_ready : (nodes : ℕ) (edges : List Edge) (ran : List ℕ) (targets : List (List ℕ)) (waits words : List ℕ)
    → Running nodes edges ran targets waits words → ((m : ℕ) → is_member words m ≡ false) → first_below (is_ready edges ran) nodes ≡ None
none_is_ready nodes edges ran targets waits words r none =
    first_none (is_ready edges ran) nodes (λ m less. ap (λ (b : Bool). b && is_ready edges ran m) (sym (lt-ltb m nodes less)) ∙ sym (r.members m) ∙ none m)

pub is_next : (nodes : ℕ) (edges : List Edge) (ran : List ℕ) (targets : List (List ℕ)) (waits words : List ℕ) (n : ℕ)
    → Running nodes edges ran targets waits words → is_member words n ≡ true → (n < nodes) × (is_ready edges ran n ≡ true)
is_next nodes edges ran targets waits words n r here =
    let parts = and_parts (nat_lt n nodes) (is_ready edges ran n) (sym (r.members n) ∙ here) in
    (ltb-true n nodes parts.0, parts.1)

pub first_is_ready : (nodes : ℕ) (edges : List Edge) (ran : List ℕ) (targets : List (List ℕ)) (waits words : List ℕ) (n : ℕ)
    → Running nodes edges ran targets waits words → is_member words n ≡ true → ((m : ℕ) → m < n → is_member words m ≡ false)
    → first_below (is_ready edges ran) nodes ≡ Some n
first_is_ready nodes edges ran targets waits words n r here before =
    let next = is_next nodes edges ran targets waits words n r here in
    first_some (is_ready edges ran) nodes n next.0 next.1
    (λ m less. let lower : m < nodes = omega (arith, next.0) in ap (λ (b : Bool). b && is_ready edges ran m) (sym (lt-ltb m nodes lower)) ∙ sym (r.members m) ∙ before m less)

-- ---- a turn

pub turn_with_none : (turns nodes : ℕ) (edges : List Edge) (ran : List ℕ) → first_below (is_ready edges ran) nodes ≡ None → run_turns turns nodes edges ran ≡ ran
turn_with_none zero nodes edges ran none = refl
turn_with_none (suc turns) nodes edges ran none = ap (λ (o : Option ℕ). run_next ran o (run_turns turns nodes edges)) none

pub turn_with : (left turns nodes : ℕ) (edges : List Edge) (ran : List ℕ) (n : ℕ) → left ≡ suc turns → first_below (is_ready edges ran) nodes ≡ Some n
    → run_turns turns nodes edges (ran ++ n ∷ []) ≡ run_turns left nodes edges ran
turn_with left turns nodes edges ran n is next =
    sym (ap (λ (o : Option ℕ). run_next ran o (run_turns turns nodes edges)) next) ∙ ap (λ k. run_turns k nodes edges ran) (sym is)

ready_waits_for_none : (edges : List Edge) (ran : List ℕ) (n : ℕ) → is_ready edges ran n ≡ true → (is_among n ran ≡ false) × (waits_left edges ran n ≡ 0)
ready_waits_for_none edges ran n ready =
    let parts = and_parts (not (is_among n ran)) (waits_left edges ran n == 0) (sym (ready_by_count edges ran n) ∙ ready) in
    (not-true (is_among n ran) parts.0, eqb-true (waits_left edges ran n) 0 parts.1)

pub can_run : (nodes : ℕ) (edges : List Edge) (ran : List ℕ) (targets : List (List ℕ)) (waits words : List ℕ) (n : ℕ)
    → list_all (ends_within nodes) edges ≡ true → Running nodes edges ran targets waits words → is_member words n ≡ true → CanRun targets waits words n
can_run nodes edges ran targets waits words n ends r here =
    let next = is_next nodes edges ran targets waits words n r here in
    let list = r.lists n next.0 in
    record {
      node = subst (λ k. n < k) (sym r.waits_len) next.0;
      lists_len = r.lists_len ∙ sym r.waits_len;
      room = subst (λ k. k ≤ 64 * length words) (sym r.waits_len) r.room;
      within = (λ i. all_below (r.waits_len i) (list i)) ∙ targets_below nodes n edges ends;
      counted = λ m. by_place m (cases_lt m nodes);
    }
  where
    by_place : (m : ℕ) → (m < nodes) ⊎ (nodes ≤ m) → count_by (λ t. t == m) (get_or targets n []) ≤ get_or waits m 0
    by_place m (inl less) =
        let next = is_next nodes edges ran targets waits words n r here in
        let tally = one_less_waits edges ran n m (ready_waits_for_none edges ran n next.1).0 in
        let list = ap (count_by (λ t. t == m)) (r.lists n next.0) in
        let waiting = r.counts m less in
        omega arith
    by_place m (inr more) =
        let next = is_next nodes edges ran targets waits words n r here in
        let list = ap (count_by (λ t. t == m)) (r.lists n next.0) in
        let none = not_counted m more in
        omega arith
      where
        not_counted : (m : ℕ) → nodes ≤ m → count_by (λ t. t == m) (targets_of n edges) ≡ 0
        not_counted m more = by_count (cases_Bool (has_edge edges n m))
          where
            by_count : (has_edge edges n m ≡ true) ⊎ (has_edge edges n m ≡ false) → count_by (λ t. t == m) (targets_of n edges) ≡ 0
            by_count (inl e) = absurd (let both = edge_ends nodes edges n m ends e in omega (arith, both.1))
            by_count (inr e) = eqb-true (count_by (λ t. t == m) (targets_of n edges)) 0 (not-false (count_by (λ t. t == m) (targets_of n edges) == 0) (sym (counted_among m (targets_of n edges)) ∙ targets_are n m edges ∙ e))

-- whether a node is ready after a turn
member_step : (lt a same : Bool) (w w' c : ℕ) → w' + c ≡ w → (lt ≡ false → c ≡ 0) → (same ≡ true → w ≡ 0) → (a ≡ true → w ≡ 0)
    → ((not same && (lt && (not a && (w == 0)))) || (not (c == 0) && (w' == 0))) ≡ (lt && (not (a || same) && (w' == 0)))
member_step true true same w w' c sum out one had = by_zero (had refl)
  where
    by_zero : w ≡ 0 → ((not same && false) || (not (c == 0) && (w' == 0))) ≡ false
    by_zero z =
        let none : c ≡ 0 = omega arith in
        ap (λ k. (not same && false) || (not (k == 0) && (w' == 0))) none ∙ by_same same
      where
        by_same : (same : Bool) → ((not same && false) || false) ≡ false
        by_same true = refl
        by_same false = refl
member_step true false true w w' c sum out one had =
    let z : w ≡ 0 = one refl in
    let none : c ≡ 0 = omega arith in
    ap (λ k. not (k == 0) && (w' == 0)) none
member_step true false false w w' c sum out one had = by_count (cases_eq c 0)
  where
    by_count : (c ≡ 0) ⊎ (c ≡ 0 → ⊥) → ((w == 0) || (not (c == 0) && (w' == 0))) ≡ (w' == 0)
    by_count (inl none) =
        let same : w ≡ w' = omega arith in
        (λ i. (same i == 0) || (not (none i == 0) && (w' == 0))) ∙ or_false (w' == 0)
      where
        or_false : (b : Bool) → (b || false) ≡ b
        or_false true = refl
        or_false false = refl
    by_count (inr some) =
        let more : w ≡ 0 → ⊥ = λ e. some (omega arith) in
        (λ i. ne_eqb w 0 more i || (not (ne_eqb c 0 some i) && (w' == 0)))
member_step false a same w w' c sum out one had =
    ap (λ k. (not same && false) || (not (k == 0) && (w' == 0))) (out refl) ∙ by_same same
  where
    by_same : (same : Bool) → ((not same && false) || false) ≡ false
    by_same true = refl
    by_same false = refl

-- after a node has run
pub running_on : (nodes : ℕ) (edges : List Edge) (ran : List ℕ) (targets : List (List ℕ)) (waits waits' words words' : List ℕ) (n : ℕ)
    → list_all (ends_within nodes) edges ≡ true → Running nodes edges ran targets waits words → is_member words n ≡ true
    → length waits' ≡ length waits → length words' ≡ length words
    → ((m : ℕ) → get_or waits' m 0 + count_by (λ t. t == m) (get_or targets n []) ≡ get_or waits m 0)
    → ((m : ℕ) → is_member words' m ≡ ((not (m == n) && is_member words m) || (is_among m (get_or targets n []) && (get_or waits' m 0 == 0))))
    → Running nodes edges (ran ++ n ∷ []) targets waits' words'
running_on nodes edges ran targets waits waits' words words' n ends r here waits_len words_len counts members =
    record {
      lists_len = r.lists_len;
      waits_len = waits_len ∙ r.waits_len;
      room = subst (λ k. nodes ≤ 64 * k) (sym words_len) r.room;
      lists = r.lists;
      counts = counts_on;
      members = λ m. by_place m (cases_lt m nodes);
      closed = λ m among. by_among m (or_cases (is_among m ran) (n == m) (sym (among_push m n ran) ∙ among));
    }
  where
    next : (n < nodes) × (is_ready edges ran n ≡ true)
    next = is_next nodes edges ran targets waits words n r here

    ready : (is_among n ran ≡ false) × (waits_left edges ran n ≡ 0)
    ready = ready_waits_for_none edges ran n next.1

    tally : (m : ℕ) → waits_left edges (ran ++ n ∷ []) m + count_by (λ t. t == m) (targets_of n edges) ≡ waits_left edges ran m
    tally m = one_less_waits edges ran n m ready.0

    counts_on : (m : ℕ) → m < nodes → get_or waits' m 0 ≡ waits_left edges (ran ++ n ∷ []) m
    counts_on m less =
        let list = ap (count_by (λ t. t == m)) (r.lists n next.0) in
        let now = counts m in
        let was = r.counts m less in
        let sum = tally m in
        omega arith

    by_among : (m : ℕ) → (is_among m ran ≡ true) ⊎ ((n == m) ≡ true) → waits_left edges (ran ++ n ∷ []) m ≡ 0
    by_among m (inl had) = let sum = tally m in let none = r.closed m had in omega arith
    by_among m (inr is) = let sum = tally m in let none = ap (waits_left edges ran) (sym (eqb-true n m is)) ∙ ready.1 in omega arith

    same_test : (m : ℕ) → (m == n) ≡ (n == m)
    same_test m = by_eq (cases_eq m n)
      where
        by_eq : (m ≡ n) ⊎ (m ≡ n → ⊥) → (m == n) ≡ (n == m)
        by_eq (inl e) = eq-eqb m n e ∙ sym (eq-eqb n m (sym e))
        by_eq (inr other) = ne_eqb m n other ∙ sym (ne_eqb n m (λ e. other (sym e)))

    among_target : (m : ℕ) → is_among m (get_or targets n []) ≡ not (count_by (λ t. t == m) (targets_of n edges) == 0)
    among_target m = ap (is_among m) (r.lists n next.0) ∙ counted_among m (targets_of n edges)

    no_target : (m : ℕ) → nat_lt m nodes ≡ false → count_by (λ t. t == m) (targets_of n edges) ≡ 0
    no_target m out = by_count (cases_Bool (has_edge edges n m))
      where
        by_count : (has_edge edges n m ≡ true) ⊎ (has_edge edges n m ≡ false) → count_by (λ t. t == m) (targets_of n edges) ≡ 0
        by_count (inl e) = absurd (let both = edge_ends nodes edges n m ends e in let yes = lt-ltb m nodes both.1 in let both_ways : true ≡ false = sym yes ∙ out in cc)
        by_count (inr e) = eqb-true (count_by (λ t. t == m) (targets_of n edges)) 0 (not-false (count_by (λ t. t == m) (targets_of n edges) == 0) (sym (counted_among m (targets_of n edges)) ∙ targets_are n m edges ∙ e))

    -- the test that the turn makes, in numbers alone
    in_numbers : (m w' : ℕ) → get_or waits' m 0 ≡ w' → is_member words' m
        ≡ ((not (n == m) && (nat_lt m nodes && (not (is_among m ran) && (waits_left edges ran m == 0)))) || (not (count_by (λ t. t == m) (targets_of n edges) == 0) && (w' == 0)))
    in_numbers m w' is = members m ∙ (λ i. (not (same_test m i) && was i) || (among_target m i && (is i == 0)))
      where
        was : is_member words m ≡ (nat_lt m nodes && (not (is_among m ran) && (waits_left edges ran m == 0)))
        was = r.members m ∙ ap (λ (b : Bool). nat_lt m nodes && b) (ready_by_count edges ran m)

    finish : (m : ℕ) → (nat_lt m nodes && (not (is_among m ran || (n == m)) && (waits_left edges (ran ++ n ∷ []) m == 0))) ≡ (nat_lt m nodes && is_ready edges (ran ++ n ∷ []) m)
    finish m = ap (λ (b : Bool). nat_lt m nodes && b) (ap (λ (b : Bool). not b && (waits_left edges (ran ++ n ∷ []) m == 0)) (sym (among_push m n ran)) ∙ sym (ready_by_count edges (ran ++ n ∷ []) m))

    step : (m : ℕ) → ((not (n == m) && (nat_lt m nodes && (not (is_among m ran) && (waits_left edges ran m == 0)))) || (not (count_by (λ t. t == m) (targets_of n edges) == 0) && (waits_left edges (ran ++ n ∷ []) m == 0)))
        ≡ (nat_lt m nodes && (not (is_among m ran || (n == m)) && (waits_left edges (ran ++ n ∷ []) m == 0)))
    step m = member_step (nat_lt m nodes) (is_among m ran) (n == m) (waits_left edges ran m) (waits_left edges (ran ++ n ∷ []) m) (count_by (λ t. t == m) (targets_of n edges))
        (tally m) (no_target m) (λ e. ap (waits_left edges ran) (sym (eqb-true n m e)) ∙ ready.1) (r.closed m)

    by_place : (m : ℕ) → (m < nodes) ⊎ (nodes ≤ m) → is_member words' m ≡ (nat_lt m nodes && is_ready edges (ran ++ n ∷ []) m)
    by_place m (inl less) = in_numbers m (waits_left edges (ran ++ n ∷ []) m) (counts_on m less) ∙ step m ∙ finish m
    by_place m (inr more) =
        in_numbers m (get_or waits' m 0) refl
        ∙ (λ i. (not (n == m) && (le-ltb m nodes more i && (not (is_among m ran) && (waits_left edges ran m == 0)))) || (not (no_target m (le-ltb m nodes more) i == 0) && (get_or waits' m 0 == 0)))
        ∙ nothing (not (n == m))
        ∙ sym (ap (λ (b : Bool). b && is_ready edges (ran ++ n ∷ []) m) (le-ltb m nodes more))
      where
        nothing : (b : Bool) → ((b && false) || false) ≡ false
        nothing true = refl
        nothing false = refl

-- before any node has run
pub running_at_first : (nodes : ℕ) (edges : List Edge) (targets : List (List ℕ)) (waits words : List ℕ)
    → length targets ≡ nodes → length waits ≡ nodes → nodes ≤ 64 * length words
    → ((n : ℕ) → n < nodes → get_or targets n [] ≡ targets_of n edges)
    → ((n : ℕ) → n < nodes → get_or waits n 0 ≡ count_by (λ (e : Edge). e.to == n) edges)
    → ((n : ℕ) → is_member words n ≡ (nat_lt n nodes && (get_or waits n 0 == 0)))
    → Running nodes edges [] targets waits words
running_at_first nodes edges targets waits words lists_len waits_len room lists counts members =
    record {
      lists_len = lists_len;
      waits_len = waits_len;
      room = room;
      lists = lists;
      counts = λ n less. counts n less ∙ waits_at_first edges n;
      members = λ n. members n ∙ by_place n (cases_lt n nodes);
      closed = λ n among. absurd (let e : false ≡ true = among in cc);
    }
  where
    by_place : (n : ℕ) → (n < nodes) ⊎ (nodes ≤ n) → (nat_lt n nodes && (get_or waits n 0 == 0)) ≡ (nat_lt n nodes && is_ready edges [] n)
    by_place n (inl less) = ap (λ (b : Bool). nat_lt n nodes && b) (ap (λ k. k == 0) (counts n less ∙ waits_at_first edges n) ∙ sym (ready_by_count edges [] n))
    by_place n (inr more) =
        ap (λ (b : Bool). b && (get_or waits n 0 == 0)) (le-ltb n nodes more) ∙ sym (ap (λ (b : Bool). b && is_ready edges [] n) (le-ltb n nodes more))
