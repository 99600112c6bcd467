-- A settle order has each node once and keeps the edges, and a loop goes round.
use Rattle.std.proofs.Common.{◌≡◌, ◌+◌, ◌<◌, ◌==◌, ℕ, zero, suc, List, [], ◌∷◌, ◌++◌, length, drop, Bool, true, false, not, cond, ◌&&◌, ◌||◌, Option, Some, None, refl, sym, ap, subst, ◌∙◌, inl, inr, ◌⊎◌, arith, append_assoc, append-nil}
use Rattle.std.specs.List.{list_all, prefix_len}
use Rattle.std.proofs.lemmas.Bool.{cases_Bool, eq-eqb, eqb-true, and_parts, and_from, and_cases, not-true, not-false, not_from_false, or_cases, or_left}
use Rattle.std.proofs.lemmas.List.{length_push}
use Rattle.std.proofs.lemmas.List.Folds.{list_any-append}
use Rattle.plan_graph.specs.declared.node.Edge.{Edge}
use Rattle.plan_graph.specs.Graphs.{ends_within, has_edge, is_among, is_path_to, HasNoCycle}
use Rattle.plan_graph.specs.GraphLaws.{has_edge_passes, edge_ends}
use Rattle.order_levels.specs.Settling.{is_ready, all_run, first_left, first_holder, list_from, walk_turns, after_run, settling, InOrder, Stalls}
use Rattle.order_levels.specs.SettlingLaws.{HasEachNode, HasNoneTwice, KeepsEdges, GoesRound}
use Rattle.order_levels.specs.declared.fault.LoopFault.{LoopFault}
use Rattle.order_levels.specs.declared.fault.LoopFault.TheVariants.{NoMemory, Loop}
use Rattle.order_levels.specs.Answers.{TellsStall, TellsLoop}
use Rattle.order_levels.specs.Sets.{all_below}
use Rattle.order_levels.proofs.FirstLemmas.{found, not_found}
use Rattle.order_levels.proofs.StallLemmas.{below_push, all_run_below}
use Rattle.order_levels.proofs.Pigeons.{is_distinct, no_longer, distinct_push}
use Rattle.order_levels.proofs.OrderLaws.{none_ready_after, waits_for_one, sources_among, keeps_edges, run_keeps_edges}

-- ---- an order

in_order : (nodes : ℕ) (edges : List Edge) (ran : List ℕ) (o : Option ℕ) (v : List ℕ) → after_run nodes edges ran o ≡ InOrder v → (o ≡ None) × (ran ≡ v)
in_order nodes edges ran None v is = (refl, cc)
in_order nodes edges ran (Some n) v is = absurd (let e : Stalls (walk_turns (suc nodes) (first_holder nodes edges ran) [] (Some n)) ≡ InOrder v = is in cc)

kept_at : (edges : List Edge) (done before : List ℕ) (n : ℕ) (after : List ℕ) → keeps_edges edges done (before ++ n ∷ after) ≡ true
    → (is_among n (done ++ before) ≡ false) × (sources_among edges (done ++ before) n ≡ true)
kept_at edges done [] n after keeps =
    let parts = and_parts (not (is_among n done) && sources_among edges done n) (keeps_edges edges (done ++ n ∷ []) after) keeps in
    let here = and_parts (not (is_among n done)) (sources_among edges done n) parts.0 in
    (ap (is_among n) (append-nil done) ∙ not-true (is_among n done) here.0, ap (λ (xs : List ℕ). sources_among edges xs n) (append-nil done) ∙ here.1)
kept_at edges done (b ∷ before) n after keeps =
    let parts = and_parts (not (is_among b done) && sources_among edges done b) (keeps_edges edges (done ++ b ∷ []) (before ++ n ∷ after)) keeps in
    let rest = kept_at edges (done ++ b ∷ []) before n after parts.1 in
    let same = append_assoc done (b ∷ []) before in
    (ap (is_among n) (sym same) ∙ rest.0, ap (λ (xs : List ℕ). sources_among edges xs n) (sym same) ∙ rest.1)

all_kept : (nodes : ℕ) (edges : List Edge) (v : List ℕ) → settling nodes edges ≡ InOrder v → keeps_edges edges [] v ≡ true
all_kept nodes edges v is = ap (keeps_edges edges []) (sym (in_order nodes edges (all_run nodes edges) (first_left nodes (all_run nodes edges)) v is).1) ∙ run_keeps_edges nodes nodes edges [] refl

pub order_has_each : (nodes : ℕ) (edges : List Edge) (v : List ℕ) → settling nodes edges ≡ InOrder v → HasEachNode nodes v
order_has_each nodes edges v is = λ n less.
    let parts = in_order nodes edges (all_run nodes edges) (first_left nodes (all_run nodes edges)) v is in
    ap (is_among n) (sym parts.1) ∙ not-false (is_among n (all_run nodes edges)) (not_found (λ m. not (is_among m (all_run nodes edges))) nodes n parts.0 less)

pub order_is_below : (nodes : ℕ) (edges : List Edge) (v : List ℕ) → settling nodes edges ≡ InOrder v → all_below nodes v ≡ true
order_is_below nodes edges v is =
    ap (all_below nodes) (sym (in_order nodes edges (all_run nodes edges) (first_left nodes (all_run nodes edges)) v is).1) ∙ all_run_below nodes edges

pub order_has_none_twice : (nodes : ℕ) (edges : List Edge) (v : List ℕ) → settling nodes edges ≡ InOrder v → HasNoneTwice v
order_has_none_twice nodes edges v is = λ before n after at. (kept_at edges [] before n after (ap (keeps_edges edges []) (sym at) ∙ all_kept nodes edges v is)).0

pub order_keeps_edges : (nodes : ℕ) (edges : List Edge) (v : List ℕ) → settling nodes edges ≡ InOrder v → KeepsEdges edges v
order_keeps_edges nodes edges v is = λ before n after at i edge.
    let among = (kept_at edges [] before n after (ap (keeps_edges edges []) (sym at) ∙ all_kept nodes edges v is)).1 in
    ap (λ (b : Bool). not b || is_among i before) (sym (eq-eqb n n refl)) ∙ has_edge_passes (λ (e : Edge). not (e.to == n) || is_among e.from before) edges i n among edge

-- ---- a loop

path_push : (edges : List Edge) (m : ℕ) (back : List ℕ) (n k : ℕ) → is_path_to m edges (back ++ n ∷ []) ≡ true → has_edge edges k n ≡ true → is_path_to m edges ((back ++ n ∷ []) ++ k ∷ []) ≡ true
path_push edges m [] n k path edge =
    let parts = and_parts (has_edge edges n m) true path in
    and_from (has_edge edges n m) (has_edge edges k n && true) parts.0 (and_from (has_edge edges k n) true edge refl)
path_push edges m (b ∷ back) n k path edge =
    let parts = and_parts (has_edge edges b m) (is_path_to b edges (back ++ n ∷ [])) path in
    and_from (has_edge edges b m) (is_path_to b edges ((back ++ n ∷ []) ++ k ∷ [])) parts.0 (path_push edges b back n k parts.1 edge)

-- each node that was walked has an edge from the next, and the last from the one that comes now
abbrev trail : List Edge → List ℕ → ℕ → Bool
trail edges [] n = true
trail edges (m ∷ walked) n = is_path_to m edges (walked ++ n ∷ [])

trail_push : (edges : List Edge) (walked : List ℕ) (n k : ℕ) → trail edges walked n ≡ true → has_edge edges k n ≡ true → trail edges (walked ++ n ∷ []) k ≡ true
trail_push edges [] n k path edge = and_from (has_edge edges k n) true edge refl
trail_push edges (m ∷ walked) n k path edge = path_push edges m walked n k path edge

trail_rest : (edges : List Edge) (w : ℕ) (walked : List ℕ) (n : ℕ) → trail edges (w ∷ walked) n ≡ true → trail edges walked n ≡ true
trail_rest edges w [] n path = refl
trail_rest edges w (v ∷ walked) n path = (and_parts (has_edge edges v w) (is_path_to v edges (walked ++ n ∷ [])) path).1

round_from : (edges : List Edge) (walked : List ℕ) (n : ℕ) → is_among n walked ≡ true → trail edges walked n ≡ true → GoesRound edges (list_from n walked)
round_from edges [] n among path = absurd (let e : false ≡ true = among in cc)
round_from edges (w ∷ walked) n among path = by_test (λ rest. round_from edges walked n rest (trail_rest edges w walked n path)) (cases_Bool (w == n))
  where
    place : ℕ
    place = prefix_len (λ m. not (m == n)) walked

    by_test : (is_among n walked ≡ true → GoesRound edges (list_from n walked)) → ((w == n) ≡ true) ⊎ ((w == n) ≡ false) → GoesRound edges (list_from n (w ∷ walked))
    by_test further (inl e) =
        subst (λ (b : Bool). GoesRound edges (drop (cond (not b) (1 + place) 0) (w ∷ walked))) (sym e) (ap (λ k. is_path_to w edges (walked ++ k ∷ [])) (eqb-true w n e) ∙ path)
    by_test further (inr e) =
        let next : 1 + place ≡ suc place = omega arith in
        let is : list_from n (w ∷ walked) ≡ list_from n walked = ap (λ (b : Bool). drop (cond (not b) (1 + place) 0) (w ∷ walked)) e ∙ ap (λ k. drop k (w ∷ walked)) next in
        subst (λ (xs : List ℕ). GoesRound edges xs) (sym is) (further (sym (ap (λ (b : Bool). b || is_among n walked) e) ∙ among))

-- what has not run once none is ready is held up
is_held_up : (nodes : ℕ) (edges : List Edge) (ran : List ℕ) (n : ℕ) → list_all (ends_within nodes) edges ≡ true → is_ready edges ran n ≡ false → is_among n ran ≡ false → first_holder nodes edges ran n ≡ None → ⊥
is_held_up nodes edges ran n ends waits left none = by_cases (and_cases (not (is_among n ran)) (sources_among edges ran n) waits)
  where
    by_cases : (not (is_among n ran) ≡ false) ⊎ (sources_among edges ran n ≡ false) → ⊥
    by_cases (inl has) = let both : true ≡ false = sym (not-false (is_among n ran) has) ∙ left in cc
    by_cases (inr some) =
        let one = waits_for_one edges ran n some in
        let lower = (edge_ends nodes edges one.0 n ends one.1).0 in
        let here : (not (is_among one.0 ran) && has_edge edges one.0 n) ≡ true = and_from (not (is_among one.0 ran)) (has_edge edges one.0 n) (not_from_false (is_among one.0 ran) one.2) one.1 in
        let both : true ≡ false = sym here ∙ not_found (λ m. not (is_among m ran) && has_edge edges m n) nodes one.0 none lower in
        cc

walk_goes_round : (nodes : ℕ) (edges : List Edge) (ran : List ℕ) → list_all (ends_within nodes) edges ≡ true → ((m : ℕ) → m < nodes → is_ready edges ran m ≡ false)
    → (turns : ℕ) (walked : List ℕ) (n : ℕ) → nodes < length walked + turns → is_distinct walked ≡ true → all_below nodes walked ≡ true → n < nodes → is_among n ran ≡ false → trail edges walked n ≡ true
    → GoesRound edges (walk_turns turns (first_holder nodes edges ran) walked (Some n))
walk_goes_round nodes edges ran ends none zero walked n many distinct below less left path = absurd (let long = no_longer nodes walked below distinct in omega arith)
walk_goes_round nodes edges ran ends none (suc turns) walked n many distinct below less left path =
    by_seen (λ m a b c d e f. walk_goes_round nodes edges ran ends none turns (walked ++ n ∷ []) m a b c d e f) (cases_Bool (is_among n walked))
  where
    step : Bool → List ℕ
    step seen = cond seen (list_from n walked) (walk_turns turns (first_holder nodes edges ran) (walked ++ n ∷ []) (first_holder nodes edges ran n))

    by_holder : ((m : ℕ) → nodes < length (walked ++ n ∷ []) + turns → is_distinct (walked ++ n ∷ []) ≡ true → all_below nodes (walked ++ n ∷ []) ≡ true → m < nodes → is_among m ran ≡ false → trail edges (walked ++ n ∷ []) m ≡ true
        → GoesRound edges (walk_turns turns (first_holder nodes edges ran) (walked ++ n ∷ []) (Some m)))
        → is_among n walked ≡ false → (o : Option ℕ) → first_holder nodes edges ran n ≡ o → GoesRound edges (walk_turns turns (first_holder nodes edges ran) (walked ++ n ∷ []) o)
    by_holder again fresh None is = absurd (is_held_up nodes edges ran n ends (none n less) left is)
    by_holder again fresh (Some m) is =
        let next = found (λ k. not (is_among k ran) && has_edge edges k n) nodes m is in
        let parts = and_parts (not (is_among m ran)) (has_edge edges m n) next.1 in
        let long = length_push walked n in
        again m (omega arith) (distinct_push walked n distinct fresh) (below_push nodes n walked below less) next.0 (not-true (is_among m ran) parts.0) (trail_push edges walked n m path parts.1)

    by_seen : ((m : ℕ) → nodes < length (walked ++ n ∷ []) + turns → is_distinct (walked ++ n ∷ []) ≡ true → all_below nodes (walked ++ n ∷ []) ≡ true → m < nodes → is_among m ran ≡ false → trail edges (walked ++ n ∷ []) m ≡ true
        → GoesRound edges (walk_turns turns (first_holder nodes edges ran) (walked ++ n ∷ []) (Some m)))
        → (is_among n walked ≡ true) ⊎ (is_among n walked ≡ false) → GoesRound edges (cond (is_among n walked) (list_from n walked) (walk_turns turns (first_holder nodes edges ran) (walked ++ n ∷ []) (first_holder nodes edges ran n)))
    by_seen again (inl seen) = subst (λ (b : Bool). GoesRound edges (cond b (list_from n walked) (walk_turns turns (first_holder nodes edges ran) (walked ++ n ∷ []) (first_holder nodes edges ran n)))) (sym seen) (round_from edges walked n seen path)
    by_seen again (inr fresh) =
        subst (λ (b : Bool). GoesRound edges (cond b (list_from n walked) (walk_turns turns (first_holder nodes edges ran) (walked ++ n ∷ []) (first_holder nodes edges ran n)))) (sym fresh)
        (by_holder again fresh (first_holder nodes edges ran n) refl)

pub loop_goes_round : (nodes : ℕ) (edges : List Edge) (v : List ℕ) → list_all (ends_within nodes) edges ≡ true → settling nodes edges ≡ Stalls v → GoesRound edges v
loop_goes_round nodes edges v ends is = by_left (first_left nodes (all_run nodes edges)) refl is
  where
    by_left : (o : Option ℕ) → first_left nodes (all_run nodes edges) ≡ o → after_run nodes edges (all_run nodes edges) o ≡ Stalls v → GoesRound edges v
    by_left None left stall = absurd (let e : InOrder (all_run nodes edges) ≡ Stalls v = stall in cc)
    by_left (Some start) left stall =
        let first = found (λ m. not (is_among m (all_run nodes edges))) nodes start left in
        let same : walk_turns (suc nodes) (first_holder nodes edges (all_run nodes edges)) [] (Some start) ≡ v = cc in
        subst (λ (xs : List ℕ). GoesRound edges xs) same
        (walk_goes_round nodes edges (all_run nodes edges) ends (none_ready_after nodes nodes edges [] (omega arith) refl refl) (suc nodes) [] start (omega arith) refl refl first.0 (not-true (is_among start (all_run nodes edges)) first.1) refl)

pub stall_goes_round : (nodes : ℕ) (edges : List Edge) (f : LoopFault) → list_all (ends_within nodes) edges ≡ true → TellsStall f (settling nodes edges) → TellsLoop f edges
stall_goes_round nodes edges NoMemory ends tells = tt
stall_goes_round nodes edges (Loop list) ends tells = loop_goes_round nodes edges list.items ends tells

-- ---- where there is an order there is no cycle

split_at : (n : ℕ) (xs : List ℕ) → is_among n xs ≡ true → (before : List ℕ) × (after : List ℕ) × (xs ≡ before ++ n ∷ after)
split_at n [] among = absurd (let e : false ≡ true = among in cc)
split_at n (x ∷ xs) among = by_test (λ rest. split_at n xs rest) (cases_Bool (x == n))
  where
    by_test : (is_among n xs ≡ true → (before : List ℕ) × (after : List ℕ) × (xs ≡ before ++ n ∷ after)) → ((x == n) ≡ true) ⊎ ((x == n) ≡ false) → (before : List ℕ) × (after : List ℕ) × (x ∷ xs ≡ before ++ n ∷ after)
    by_test further (inl e) = ([], xs, ap (λ k. k ∷ xs) (eqb-true x n e))
    by_test further (inr e) = let rest = further (sym (ap (λ (b : Bool). b || is_among n xs) e) ∙ among) in (x ∷ rest.0, rest.1, ap (λ (ys : List ℕ). x ∷ ys) rest.2)

among_front : (n : ℕ) (front back : List ℕ) → is_among n front ≡ true → is_among n (front ++ back) ≡ true
among_front n front back among = list_any-append (λ m. m == n) front back ∙ or_left (is_among n front) (is_among n back) among

-- all that a path comes through stands before its end
path_before : (edges : List Edge) (order : List ℕ) → KeepsEdges edges order → (back before : List ℕ) (j : ℕ) (after : List ℕ) → order ≡ before ++ j ∷ after → is_path_to j edges back ≡ true
    → (k : ℕ) → is_among k back ≡ true → is_among k before ≡ true
path_before edges order keeps [] before j after at path k among = absurd (let e : false ≡ true = among in cc)
path_before edges order keeps (i ∷ back) before j after at path k among =
    let parts = and_parts (has_edge edges i j) (is_path_to i edges back) path in
    let here = keeps before j after at i parts.0 in
    let split = split_at i before here in
    let again : order ≡ split.0 ++ i ∷ (split.1 ++ j ∷ after) = at ∙ ap (λ (xs : List ℕ). xs ++ j ∷ after) split.2 ∙ append_assoc split.0 (i ∷ split.1) (j ∷ after) in
    by_cases here split.0 split.1 split.2 (λ rest. path_before edges order keeps back split.0 i (split.1 ++ j ∷ after) again parts.1 k rest) (or_cases (i == k) (is_among k back) among)
  where
    by_cases : is_among i before ≡ true → (front rest : List ℕ) → before ≡ front ++ i ∷ rest → (is_among k back ≡ true → is_among k front ≡ true) → ((i == k) ≡ true) ⊎ (is_among k back ≡ true) → is_among k before ≡ true
    by_cases here front rest is further (inl e) = ap (λ m. is_among m before) (sym (eqb-true i k e)) ∙ here
    by_cases here front rest is further (inr others) = ap (is_among k) is ∙ among_front k front (i ∷ rest) (further others)

pub order_has_no_cycle : (nodes : ℕ) (edges : List Edge) (v : List ℕ) → list_all (ends_within nodes) edges ≡ true → settling nodes edges ≡ InOrder v → HasNoCycle edges
order_has_no_cycle nodes edges v ends is j [] path = refl
order_has_no_cycle nodes edges v ends is j (i ∷ back) path = by_test (cases_Bool (is_among j (i ∷ back)))
  where
    by_test : (is_among j (i ∷ back) ≡ true) ⊎ (is_among j (i ∷ back) ≡ false) → is_among j (i ∷ back) ≡ false
    by_test (inr none) = none
    by_test (inl again) =
        let edge = (and_parts (has_edge edges i j) (is_path_to i edges back) path).0 in
        let split = split_at j v (order_has_each nodes edges v is j (edge_ends nodes edges i j ends edge).1) in
        let before = path_before edges v (order_keeps_edges nodes edges v is) (i ∷ back) split.0 j split.1 split.2 path j again in
        absurd (let both : true ≡ false = sym before ∙ order_has_none_twice nodes edges v is split.0 j split.1 split.2 in cc)
