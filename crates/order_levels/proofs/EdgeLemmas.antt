-- Edges by their ends: lists of sources and targets, and counts.
use Rattle.std.proofs.Common.{◌≡◌, ◌+◌, ◌<◌, ◌≤◌, ◌==◌, ℕ, zero, suc, List, [], ◌∷◌, ◌++◌, length, get_or, set, take, map, count_by, Bool, true, false, not, cond, ◌&&◌, ◌||◌, nat_lt, refl, sym, ap, ◌∙◌, inl, inr, ◌⊎◌, arith, get_or-set_same, get_or-set_other, append-nil, zero-add}
use Rattle.std.specs.List.{list_all, filter}
use Rattle.std.proofs.lemmas.Bool.{cases_eq, cases_Bool, eq-eqb, ne_eqb, ltb-true, and_parts, and_from}
use Rattle.std.proofs.lemmas.List.{map-append, get_or_read, length-take}
use Rattle.std.proofs.lemmas.List.Sums.{sum_by-cons, count_by-le-length, count_by_more_yes, count_by_more_no}
use Rattle.std.proofs.lemmas.List.Elements.{filter_more}
use Rattle.std.proofs.lemmas.List.Folds.{list_any-append, list_all_at, sum_by-zero}
use Rattle.plan_graph.specs.declared.node.Edge.{Edge}
use Rattle.plan_graph.specs.Graphs.{ends_within, has_edge, is_among}
use Rattle.order_levels.specs.Sets.{sources_of, targets_of, waits_left, all_below, each_below}
use Rattle.order_levels.specs.Settling.{is_ready}

-- ---- tests of lists

pub list_all_get : {X : Type 0} (p : X → Bool) (xs : List X) (i : ℕ) (x : X) → list_all p xs ≡ true → i < length xs → x ≡ get_or xs i x → p x ≡ true
list_all_get p xs i x all within is = by_test (cases_Bool (p x))
  where
    by_test : (p x ≡ true) ⊎ (p x ≡ false) → p x ≡ true
    by_test (inl e) = e
    by_test (inr e) = absurd (let both : true ≡ false = sym all ∙ list_all_at p xs i x within (ap p (sym is) ∙ e) in cc)

pub below_at : (nodes : ℕ) (list : List ℕ) (i x : ℕ) → all_below nodes list ≡ true → i < length list → x ≡ get_or list i x → x < nodes
below_at nodes list i x all within is = ltb-true x nodes (list_all_get (λ n. nat_lt n nodes) list i x all within is)

pub from_at : (nodes : ℕ) (edges : List Edge) (i : ℕ) (e : Edge) → list_all (ends_within nodes) edges ≡ true → i < length edges → e ≡ get_or edges i e → e.from < nodes
from_at nodes edges i e all within is = ltb-true e.from nodes (and_parts (nat_lt e.from nodes) (nat_lt e.to nodes) (list_all_get (ends_within nodes) edges i e all within is)).0

pub to_at : (nodes : ℕ) (edges : List Edge) (i : ℕ) (e : Edge) → list_all (ends_within nodes) edges ≡ true → i < length edges → e ≡ get_or edges i e → e.to < nodes
to_at nodes edges i e all within is = ltb-true e.to nodes (and_parts (nat_lt e.from nodes) (nat_lt e.to nodes) (list_all_get (ends_within nodes) edges i e all within is)).1

pub among_push : (n x : ℕ) (xs : List ℕ) → is_among n (xs ++ x ∷ []) ≡ (is_among n xs || (x == n))
among_push n x xs = list_any-append (λ m. m == n) xs (x ∷ []) ∙ ap (λ (b : Bool). is_among n xs || b) (or_false (x == n))
  where
    or_false : (b : Bool) → (b || false) ≡ b
    or_false true = refl
    or_false false = refl

pub among_passes : (p : ℕ → Bool) (n : ℕ) (xs : List ℕ) → list_all p xs ≡ true → is_among n xs ≡ true → p n ≡ true
among_passes p n [] all among = absurd (let e : false ≡ true = among in cc)
among_passes p n (x ∷ xs) all among =
    let parts = and_parts (p x) (list_all p xs) all in
    by_test parts.0 (among_passes p n xs parts.1) (cases_eq x n)
  where
    by_test : p x ≡ true → (is_among n xs ≡ true → p n ≡ true) → (x ≡ n) ⊎ (x ≡ n → ⊥) → p n ≡ true
    by_test here others (inl e) = ap p (sym e) ∙ here
    by_test here others (inr other) = others (sym (ap (λ (b : Bool). b || is_among n xs) (ne_eqb x n other)) ∙ among)

-- ---- lists of sources and targets

and_true : (b : Bool) → (b && true) ≡ b
and_true true = refl
and_true false = refl

pub and_false : (b : Bool) → (b && false) ≡ false
and_false true = refl
and_false false = refl

pub sources_are : (n m : ℕ) (edges : List Edge) → is_among m (sources_of n edges) ≡ has_edge edges m n
sources_are n m [] = refl
sources_are n m (e ∷ edges) = by_test (sources_are n m edges) (e.to == n)
  where
    by_test : is_among m (sources_of n edges) ≡ has_edge edges m n → (to : Bool) → is_among m (map (λ (d : Edge). d.from) (cond to (e ∷ filter (λ (d : Edge). d.to == n) edges) (filter (λ (d : Edge). d.to == n) edges))) ≡ (((e.from == m) && to) || has_edge edges m n)
    by_test others true = λ i. sym (and_true (e.from == m)) i || others i
    by_test others false = λ i. sym (and_false (e.from == m)) i || others i

pub targets_are : (n m : ℕ) (edges : List Edge) → is_among m (targets_of n edges) ≡ has_edge edges n m
targets_are n m [] = refl
targets_are n m (e ∷ edges) = by_test (targets_are n m edges) (e.from == n)
  where
    by_test : is_among m (targets_of n edges) ≡ has_edge edges n m → (from : Bool) → is_among m (map (λ (d : Edge). d.to) (cond from (e ∷ filter (λ (d : Edge). d.from == n) edges) (filter (λ (d : Edge). d.from == n) edges))) ≡ ((from && (e.to == m)) || has_edge edges n m)
    by_test others true = ap (λ (b : Bool). (e.to == m) || b) others
    by_test others false = others

pub sources_below : (nodes n : ℕ) (edges : List Edge) → list_all (ends_within nodes) edges ≡ true → all_below nodes (sources_of n edges) ≡ true
sources_below nodes n [] all = refl
sources_below nodes n (e ∷ edges) all = by_test (sources_below nodes n edges (and_parts (ends_within nodes e) (list_all (ends_within nodes) edges) all).1) (e.to == n)
  where
    by_test : all_below nodes (sources_of n edges) ≡ true → (to : Bool) → all_below nodes (map (λ (d : Edge). d.from) (cond to (e ∷ filter (λ (d : Edge). d.to == n) edges) (filter (λ (d : Edge). d.to == n) edges))) ≡ true
    by_test others true =
        let parts = and_parts (ends_within nodes e) (list_all (ends_within nodes) edges) all in
        and_from (nat_lt e.from nodes) (all_below nodes (sources_of n edges)) (and_parts (nat_lt e.from nodes) (nat_lt e.to nodes) parts.0).0 others
    by_test others false = others

pub targets_below : (nodes n : ℕ) (edges : List Edge) → list_all (ends_within nodes) edges ≡ true → all_below nodes (targets_of n edges) ≡ true
targets_below nodes n [] all = refl
targets_below nodes n (e ∷ edges) all = by_test (targets_below nodes n edges (and_parts (ends_within nodes e) (list_all (ends_within nodes) edges) all).1) (e.from == n)
  where
    by_test : all_below nodes (targets_of n edges) ≡ true → (from : Bool) → all_below nodes (map (λ (d : Edge). d.to) (cond from (e ∷ filter (λ (d : Edge). d.from == n) edges) (filter (λ (d : Edge). d.from == n) edges))) ≡ true
    by_test others true =
        let parts = and_parts (ends_within nodes e) (list_all (ends_within nodes) edges) all in
        and_from (nat_lt e.to nodes) (all_below nodes (targets_of n edges)) (and_parts (nat_lt e.from nodes) (nat_lt e.to nodes) parts.0).1 others
    by_test others false = others

pub each_below_from : (nodes : ℕ) (lists : List (List ℕ)) → ((n : ℕ) → all_below nodes (get_or lists n []) ≡ true) → each_below nodes lists ≡ true
each_below_from nodes [] each = refl
each_below_from nodes (x ∷ lists) each = and_from (all_below nodes x) (each_below nodes lists) (each 0) (each_below_from nodes lists (λ n. each (suc n)))

pub sources_each_below : (nodes : ℕ) (edges : List Edge) (lists : List (List ℕ)) → list_all (ends_within nodes) edges ≡ true → length lists ≡ nodes
    → ((n : ℕ) → get_or lists n [] ≡ sources_of n edges) → each_below (length lists) lists ≡ true
sources_each_below nodes edges lists ends len is =
    ap (λ k. each_below k lists) len ∙ each_below_from nodes lists (λ n. ap (all_below nodes) (is n) ∙ sources_below nodes n edges ends)

-- ---- one more edge

pub sources_more : (n : ℕ) (edges : List Edge) (i : ℕ) (e : Edge) → i < length edges → e ≡ get_or edges i e
    → sources_of n (take (i + 1) edges) ≡ sources_of n (take i edges) ++ cond (e.to == n) (e.from ∷ []) []
sources_more n edges i e within is =
    ap (map (λ (d : Edge). d.from)) (filter_more (λ (d : Edge). d.to == n) edges i e within)
    ∙ map-append (λ (d : Edge). d.from) (filter (λ (d : Edge). d.to == n) (take i edges)) (cond ((get_or edges i e).to == n) (get_or edges i e ∷ []) [])
    ∙ ap (λ (d : Edge). sources_of n (take i edges) ++ map (λ (d : Edge). d.from) (cond (d.to == n) (d ∷ []) [])) (sym is)
    ∙ ap (λ (xs : List ℕ). sources_of n (take i edges) ++ xs) (by_test (e.to == n))
  where
    by_test : (to : Bool) → map (λ (d : Edge). d.from) (cond to (e ∷ []) []) ≡ cond to (e.from ∷ []) []
    by_test true = refl
    by_test false = refl

pub targets_more : (n : ℕ) (edges : List Edge) (i : ℕ) (e : Edge) → i < length edges → e ≡ get_or edges i e
    → targets_of n (take (i + 1) edges) ≡ targets_of n (take i edges) ++ cond (e.from == n) (e.to ∷ []) []
targets_more n edges i e within is =
    ap (map (λ (d : Edge). d.to)) (filter_more (λ (d : Edge). d.from == n) edges i e within)
    ∙ map-append (λ (d : Edge). d.to) (filter (λ (d : Edge). d.from == n) (take i edges)) (cond ((get_or edges i e).from == n) (get_or edges i e ∷ []) [])
    ∙ ap (λ (d : Edge). targets_of n (take i edges) ++ map (λ (d : Edge). d.to) (cond (d.from == n) (d ∷ []) [])) (sym is)
    ∙ ap (λ (xs : List ℕ). targets_of n (take i edges) ++ xs) (by_test (e.from == n))
  where
    by_test : (from : Bool) → map (λ (d : Edge). d.to) (cond from (e ∷ []) []) ≡ cond from (e.to ∷ []) []
    by_test true = refl
    by_test false = refl

-- a number that is pushed on one of many lists
pub list_pushed : (lists : List (List ℕ)) (t x n : ℕ) (old new : List ℕ) → t < length lists → old ≡ get_or lists t old → new ≡ old ++ x ∷ []
    → get_or (set lists t new) n [] ≡ get_or lists n [] ++ cond (t == n) (x ∷ []) []
list_pushed lists t x n old new within was is = by_place (cases_eq n t)
  where
    by_place : (n ≡ t) ⊎ (n ≡ t → ⊥) → get_or (set lists t new) n [] ≡ get_or lists n [] ++ cond (t == n) (x ∷ []) []
    by_place (inl e) =
        ap (λ k. get_or (set lists t new) k []) e ∙ get_or-set_same lists t new [] within ∙ is
        ∙ ap (λ (xs : List ℕ). xs ++ x ∷ []) (get_or_read lists t old within was [])
        ∙ ap (λ k. get_or lists k [] ++ x ∷ []) (sym e)
        ∙ ap (λ (b : Bool). get_or lists n [] ++ cond b (x ∷ []) []) (sym (eq-eqb t n (sym e)))
    by_place (inr other) =
        get_or-set_other lists t n new [] other ∙ sym (append-nil (get_or lists n []))
        ∙ ap (λ (b : Bool). get_or lists n [] ++ cond b (x ∷ []) []) (sym (ne_eqb t n (λ e. other (sym e))))

pub all_empty_pushed : (lists : List (List ℕ)) → ((n : ℕ) → get_or lists n [] ≡ []) → (n : ℕ) → get_or (lists ++ [] ∷ []) n [] ≡ []
all_empty_pushed [] empty zero = refl
all_empty_pushed [] empty (suc n) = refl
all_empty_pushed (x ∷ lists) empty zero = empty 0
all_empty_pushed (x ∷ lists) empty (suc n) = all_empty_pushed lists (λ k. empty (suc k)) n

-- ---- counts

pub count_cons : {X : Type 0} (p : X → Bool) (x : X) (xs : List X) → count_by p (x ∷ xs) ≡ cond (p x) 1 0 + count_by p xs
count_cons p x xs = sum_by-cons (λ y. cond (p y) 1 0) x xs

-- a number is in a list where it is counted
pub counted_among : (m : ℕ) (xs : List ℕ) → is_among m xs ≡ not (count_by (λ t. t == m) xs == 0)
counted_among m [] = refl
counted_among m (x ∷ xs) = by_test (counted_among m xs) (cases_Bool (x == m))
  where
    by_test : is_among m xs ≡ not (count_by (λ t. t == m) xs == 0) → ((x == m) ≡ true) ⊎ ((x == m) ≡ false) → is_among m (x ∷ xs) ≡ not (count_by (λ t. t == m) (x ∷ xs) == 0)
    by_test others (inl e) =
        ap (λ (b : Bool). b || is_among m xs) e
        ∙ sym (ap not (ne_eqb (count_by (λ t. t == m) (x ∷ xs)) 0 (λ none. let more = count_cons (λ t. t == m) x xs ∙ ap (λ (b : Bool). cond b 1 0 + count_by (λ t. t == m) xs) e in omega arith)))
    by_test others (inr e) =
        ap (λ (b : Bool). b || is_among m xs) e ∙ others
        ∙ ap (λ k. not (k == 0)) (sym (count_cons (λ t. t == m) x xs ∙ ap (λ (b : Bool). cond b 1 0 + count_by (λ t. t == m) xs) e ∙ zero-add (count_by (λ t. t == m) xs)))

-- a node waits for none where each edge to it comes from one that has run
pub ready_by_count : (edges : List Edge) (ran : List ℕ) (n : ℕ) → is_ready edges ran n ≡ (not (is_among n ran) && (waits_left edges ran n == 0))
ready_by_count edges ran n =
    ap (λ (b : Bool). not (is_among n ran) && b)
    ((λ i. list_all (λ (e : Edge). same (e.to == n) (is_among e.from ran) i) edges) ∙ sym (sum_by-zero (λ (e : Edge). cond ((e.to == n) && not (is_among e.from ran)) 1 0) edges))
  where
    same : (to among : Bool) → (not to || among) ≡ (cond (to && not among) 1 0 == 0)
    same true true = refl
    same true false = refl
    same false among = refl

-- once a node has run, others wait for it no more
pub one_less_waits : (edges : List Edge) (ran : List ℕ) (n m : ℕ) → is_among n ran ≡ false
    → waits_left edges (ran ++ n ∷ []) m + count_by (λ t. t == m) (targets_of n edges) ≡ waits_left edges ran m
one_less_waits [] ran n m fresh = refl
one_less_waits (e ∷ edges) ran n m fresh =
    let now = count_cons (λ (d : Edge). (d.to == m) && not (is_among d.from (ran ++ n ∷ []))) e edges in
    let before = count_cons (λ (d : Edge). (d.to == m) && not (is_among d.from ran)) e edges in
    let others = one_less_waits edges ran n m fresh in
    let more = by_from (cases_eq e.from n) in
    omega arith
  where
    or_false : (b : Bool) → (b || false) ≡ b
    or_false true = refl
    or_false false = refl

    among_now : is_among e.from (ran ++ n ∷ []) ≡ (is_among e.from ran || (n == e.from))
    among_now = among_push e.from n ran

    targets : (from : Bool) → count_by (λ t. t == m) (map (λ (d : Edge). d.to) (cond from (e ∷ filter (λ (d : Edge). d.from == n) edges) (filter (λ (d : Edge). d.from == n) edges)))
        ≡ cond from (cond (e.to == m) 1 0) 0 + count_by (λ t. t == m) (targets_of n edges)
    targets true = count_cons (λ t. t == m) e.to (targets_of n edges)
    targets false = sym (zero-add (count_by (λ t. t == m) (targets_of n edges)))

    by_from : (e.from ≡ n) ⊎ (e.from ≡ n → ⊥)
        → cond ((e.to == m) && not (is_among e.from (ran ++ n ∷ []))) 1 0 + count_by (λ t. t == m) (targets_of n (e ∷ edges))
        ≡ cond ((e.to == m) && not (is_among e.from ran)) 1 0 + count_by (λ t. t == m) (targets_of n edges)
    by_from (inl is) =
        let f : is_among e.from ran ≡ false = ap (λ k. is_among k ran) is ∙ fresh in
        let g : is_among e.from (ran ++ n ∷ []) ≡ true = among_now ∙ (λ i. f i || eq-eqb n e.from (sym is) i) in
        (λ i. cond ((e.to == m) && not (g i)) 1 0 + count_by (λ t. t == m) (targets_of n (e ∷ edges)))
        ∙ ap (λ k. cond ((e.to == m) && false) 1 0 + k) (targets (e.from == n) ∙ ap (λ (b : Bool). cond b (cond (e.to == m) 1 0) 0 + count_by (λ t. t == m) (targets_of n edges)) (eq-eqb e.from n is))
        ∙ tally (e.to == m) (count_by (λ t. t == m) (targets_of n edges))
        ∙ (λ i. cond ((e.to == m) && not (sym f i)) 1 0 + count_by (λ t. t == m) (targets_of n edges))
      where
        tally : (to : Bool) (k : ℕ) → cond (to && false) 1 0 + (cond to 1 0 + k) ≡ cond (to && not false) 1 0 + k
        tally true k = omega arith
        tally false k = omega arith
    by_from (inr other) =
        let g : is_among e.from (ran ++ n ∷ []) ≡ is_among e.from ran = among_now ∙ ap (λ (b : Bool). is_among e.from ran || b) (ne_eqb n e.from (λ is. other (sym is))) ∙ or_false (is_among e.from ran) in
        (λ i. cond ((e.to == m) && not (g i)) 1 0 + count_by (λ t. t == m) (targets_of n (e ∷ edges)))
        ∙ ap (λ k. cond ((e.to == m) && not (is_among e.from ran)) 1 0 + k) (targets (e.from == n) ∙ ap (λ (b : Bool). cond b (cond (e.to == m) 1 0) 0 + count_by (λ t. t == m) (targets_of n edges)) (ne_eqb e.from n other) ∙ zero-add (count_by (λ t. t == m) (targets_of n edges)))

-- before any node has run, a node waits for all edges to it
pub waits_at_first : (edges : List Edge) (n : ℕ) → count_by (λ (e : Edge). e.to == n) edges ≡ waits_left edges [] n
waits_at_first edges n = λ i. count_by (λ (e : Edge). same (e.to == n) i) edges
  where
    same : (to : Bool) → to ≡ (to && not false)
    same true = refl
    same false = refl

-- one edge more in the counts of those that lead to each node
pub counts_more : (counts : List ℕ) (edges : List Edge) (i old n : ℕ) (d : Edge) → i < length edges → (get_or edges i d).to < length counts
    → old ≡ get_or counts (get_or edges i d).to 0 → get_or counts n 0 ≡ count_by (λ (e : Edge). e.to == n) (take i edges)
    → get_or (set counts (get_or edges i d).to (old + 1)) n 0 ≡ count_by (λ (e : Edge). e.to == n) (take (i + 1) edges)
counts_more counts edges i old n d within to_in was so_far = by_eq (cases_eq n (get_or edges i d).to)
  where
    by_eq : (n ≡ (get_or edges i d).to) ⊎ (n ≡ (get_or edges i d).to → ⊥) → get_or (set counts (get_or edges i d).to (old + 1)) n 0 ≡ count_by (λ (e : Edge). e.to == n) (take (i + 1) edges)
    by_eq (inl e) =
        let here : get_or (set counts (get_or edges i d).to (old + 1)) n 0 ≡ old + 1 = ap (λ k. get_or (set counts (get_or edges i d).to (old + 1)) k 0) e ∙ get_or-set_same counts (get_or edges i d).to (old + 1) 0 to_in in
        let more = count_by_more_yes (λ (x : Edge). x.to == n) edges i d within (eq-eqb (get_or edges i d).to n (sym e)) in
        let had : get_or counts n 0 ≡ old = ap (λ k. get_or counts k 0) e ∙ sym was in
        omega arith
    by_eq (inr other) =
        get_or-set_other counts (get_or edges i d).to n (old + 1) 0 other ∙ so_far
        ∙ sym (count_by_more_no (λ (x : Edge). x.to == n) edges i d within (ne_eqb (get_or edges i d).to n (λ e. other (sym e))))

-- no more are counted than there are
pub count_taken : {X : Type 0} (p : X → Bool) (xs : List X) (i : ℕ) → i < length xs → count_by p (take i xs) ≤ i
count_taken p xs i within = let most = count_by-le-length p (take i xs) in let len = length-take i xs in omega arith

-- what comes next is counted in the whole and not in what was taken
pub counted_next : (xs : List ℕ) (i m : ℕ) → i < length xs → m ≡ get_or xs i 0 → count_by (λ t. t == m) (take i xs) < count_by (λ t. t == m) xs
counted_next [] i m within is = absurd (omega arith)
counted_next (x ∷ xs) zero m within is =
    let first = count_cons (λ t. t == m) x xs ∙ ap (λ (b : Bool). cond b 1 0 + count_by (λ t. t == m) xs) (eq-eqb x m (sym is)) in
    omega arith
counted_next (x ∷ xs) (suc i) m within is =
    let all = count_cons (λ t. t == m) x xs in
    let some = count_cons (λ t. t == m) x (take i xs) in
    let others = counted_next xs i m (omega arith) is in
    omega arith
