-- Packing places each task once, after those that it waits for.
use Rattle.std.proofs.Common.{◌≡◌, ◌+◌, ◌-◌, ◌<◌, ◌≤◌, ◌==◌, ℕ, zero, suc, List, [], ◌∷◌, ◌++◌, length, map, append-nil, append_assoc, Bool, true, false, not, cond, ◌&&◌, ◌||◌, nat_lt, Option, Some, None, refl, sym, ap, subst, ◌∙◌, inl, inr, ◌⊎◌, arith}
use Rattle.std.specs.List.{list_all, filter, range_with_len, concat}
use Rattle.std.proofs.lemmas.Bool.{cases_lt, cases_eq, cases_Bool, eq-eqb, eqb-true, ne_eqb, and_parts, and_from, or_cases, or_left, or_right, or_from, or_parts, both_ways, lt-ltb, le-ltb, ltb-true, not-true, not_from_false, false_from_ne_true}
use Rattle.plan_graph.specs.declared.node.Edge.{Edge}
use Rattle.plan_graph.specs.GraphLaws.{has_edge_passes}
use Rattle.plan_graph.specs.Graphs.{has_edge, joins, is_among, HasNoCycle, Leads}
use Rattle.plan_graph.specs.Groupings.{times, ExactlyOnce, place_in}
use Rattle.thread_pack.specs.declared.put.Put.{Put}
use Rattle.thread_pack.specs.Packing.{goes_first, start_at, order_of, is_ready, on_each, choices_of, choices, pick, first_of, put_next, pack_turns, packed, on_thread, lists_of}
use Rattle.plan_graph.specs.PathLaws.{leads_edge, leads_on, never_back}
use Rattle.plan_graph.specs.ListLaws.{all_below, is_distinct, no_longer, left_or_all, all_there, eqb_turned, range_has, among_filter, among_push, times_range, times_both, times_distinct, none_more}

-- ---- what is chosen passes a test that all choices pass

abbrev pub PassesIf : (Put → Bool) → Option Put → Type 0
PassesIf p None = Unit {0}
PassesIf p (Some x) = p x ≡ true

pub picked : (p : Put → Bool) (tail : ℕ → ℕ) (best : Option Put) (x : Put) → PassesIf p best → p x ≡ true → p (pick tail best x) ≡ true
picked p tail None x known here = here
picked p tail (Some q) x known here = by_test (goes_first tail x q)
  where
    by_test : (b : Bool) → p (cond b x q) ≡ true
    by_test true = here
    by_test false = known

pub chosen_passes : (p : Put → Bool) (tail : ℕ → ℕ) (best : Option Put) (list : List Put) → PassesIf p best → list_all p list ≡ true → PassesIf p (first_of tail best list)
chosen_passes p tail best [] known all = known
chosen_passes p tail best (x ∷ list) known all =
    let parts = and_parts (p x) (list_all p list) all in
    chosen_passes p tail (Some (pick tail best x)) list (picked p tail best x known parts.0) parts.1

record IsThere (best : Option Put) : Type 0 where
  put : Put
  is : best ≡ Some put

some_chosen : (tail : ℕ → ℕ) (q : Put) (list : List Put) → IsThere (first_of tail (Some q) list)
some_chosen tail q [] = record { put = q; is = refl }
some_chosen tail q (x ∷ list) = some_chosen tail (pick tail (Some q) x) list

chosen_there : (tail : ℕ → ℕ) (list : List Put) → 0 < length list → IsThere (first_of tail None list)
chosen_there tail [] some = absurd (omega arith)
chosen_there tail (x ∷ list) some = some_chosen tail x list

-- ---- the choices

module _ (tasks threads : ℕ) (edges : List Edge) (cost tail : ℕ → ℕ) where
  abbrev pub fits : List ℕ → Put → Bool
  fits order p = (nat_lt p.task tasks && is_ready edges order p.task) && nat_lt p.thread threads

  each_fits : (puts : List Put) (t : ℕ) → (nat_lt t tasks && is_ready edges (order_of puts) t) ≡ true → (n a : ℕ) → a + n ≤ threads
      → list_all (fits (order_of puts)) (map (λ (thread : ℕ). record { task = t; thread = thread; start = start_at edges cost puts t thread }) (range_with_len a n)) ≡ true
  each_fits puts t ready zero a room = refl
  each_fits puts t ready (suc n) a room =
      and_from ((nat_lt t tasks && is_ready edges (order_of puts) t) && nat_lt a threads) _ (and_from (nat_lt t tasks && is_ready edges (order_of puts) t) (nat_lt a threads) ready (lt-ltb a threads (omega arith)))
      (each_fits puts t ready n (a + 1) (omega arith))

  all_both : (p : Put → Bool) (xs ys : List Put) → list_all p xs ≡ true → list_all p ys ≡ true → list_all p (xs ++ ys) ≡ true
  all_both p [] ys some others = others
  all_both p (x ∷ xs) ys some others = let parts = and_parts (p x) (list_all p xs) some in and_from (p x) (list_all p (xs ++ ys)) parts.0 (all_both p xs ys parts.1 others)

  ready_fits : (puts : List Put) (list : List ℕ) → list_all (λ t. nat_lt t tasks && is_ready edges (order_of puts) t) list ≡ true → list_all (fits (order_of puts)) (choices_of edges cost puts threads list) ≡ true
  ready_fits puts [] all = refl
  ready_fits puts (t ∷ list) all =
      let parts = and_parts (nat_lt t tasks && is_ready edges (order_of puts) t) (list_all (λ t. nat_lt t tasks && is_ready edges (order_of puts) t) list) all in
      all_both (fits (order_of puts)) (on_each edges cost puts threads t) (choices_of edges cost puts threads list) (each_fits puts t parts.0 threads 0 (omega arith)) (ready_fits puts list parts.1)

  kept_ready : (order : List ℕ) (n a : ℕ) → a + n ≤ tasks → list_all (λ t. nat_lt t tasks && is_ready edges order t) (filter (is_ready edges order) (range_with_len a n)) ≡ true
  kept_ready order zero a room = refl
  kept_ready order (suc n) a room = by_test (is_ready edges order a) refl (kept_ready order n (a + 1) (omega arith))
    where
      by_test : (b : Bool) → is_ready edges order a ≡ b → list_all (λ t. nat_lt t tasks && is_ready edges order t) (filter (is_ready edges order) (range_with_len (a + 1) n)) ≡ true
          → list_all (λ t. nat_lt t tasks && is_ready edges order t) (cond b (a ∷ filter (is_ready edges order) (range_with_len (a + 1) n)) (filter (is_ready edges order) (range_with_len (a + 1) n))) ≡ true
      by_test true e more = and_from (nat_lt a tasks && is_ready edges order a) _ (and_from (nat_lt a tasks) (is_ready edges order a) (lt-ltb a tasks (omega arith)) e) more
      by_test false e more = more

  pub choices_fit : (puts : List Put) → list_all (fits (order_of puts)) (choices tasks threads edges cost puts) ≡ true
  choices_fit puts = ready_fits puts (filter (is_ready edges (order_of puts)) (range_with_len 0 tasks)) (kept_ready (order_of puts) tasks 0 (omega arith))

  -- ---- while a task is left one is ready

  waits_for : (order : List ℕ) (t : ℕ) (es : List Edge) → list_all (λ (e : Edge). not (e.to == t) || is_among e.from order) es ≡ false → (i : ℕ) × (has_edge es i t ≡ true) × (is_among i order ≡ false)
  waits_for order t [] fails = absurd (both_ways true fails refl)
  waits_for order t (e ∷ es) fails = by_test (waits_for order t es) (e.to == t) refl (is_among e.from order) refl
    where
      later : ((i : ℕ) × (has_edge es i t ≡ true) × (is_among i order ≡ false)) → (i : ℕ) × (has_edge (e ∷ es) i t ≡ true) × (is_among i order ≡ false)
      later it = (it.0, or_right (joins it.0 t e) (has_edge es it.0 t) it.1, it.2)

      passed : (b c : Bool) → (e.to == t) ≡ b → is_among e.from order ≡ c → ((not b || c) && (list_all (λ (e : Edge). not (e.to == t) || is_among e.from order) es)) ≡ false
      passed b c to from = ap (λ (x : Bool). (not x || c) && (list_all (λ (e : Edge). not (e.to == t) || is_among e.from order) es)) (sym to) ∙ ap (λ (x : Bool). (not (e.to == t) || x) && (list_all (λ (e : Edge). not (e.to == t) || is_among e.from order) es)) (sym from) ∙ fails

      by_test : ((list_all (λ (e : Edge). not (e.to == t) || is_among e.from order) es) ≡ false → (i : ℕ) × (has_edge es i t ≡ true) × (is_among i order ≡ false)) → (b : Bool) → (e.to == t) ≡ b → (c : Bool) → is_among e.from order ≡ c
          → (i : ℕ) × (has_edge (e ∷ es) i t ≡ true) × (is_among i order ≡ false)
      by_test others true to false from = (e.from, or_left (joins e.from t e) (has_edge es e.from t) (and_from (e.from == e.from) (e.to == t) (eq-eqb e.from e.from refl) to), from)
      by_test others true to true from = later (others (passed true true to from))
      by_test others false to c from = later (others (passed false c to from))

  module _ (acyclic : HasNoCycle edges) (ends : (i j : ℕ) → has_edge edges i j ≡ true → i < tasks) where
    abbrev LeadsToAll : ℕ → List ℕ → Type 0
    LeadsToAll t seen = (s : ℕ) → is_among s seen ≡ true → Leads edges t s

    some_ready : (room : ℕ) (order : List ℕ) (t : ℕ) (seen : List ℕ) → is_among t order ≡ false → t < tasks → is_distinct seen ≡ true → all_below tasks seen ≡ true → LeadsToAll t seen
        → tasks < length seen + room → (r : ℕ) × (r < tasks) × (is_ready edges order r ≡ true)
    some_ready zero order t seen away within distinct below leads long = absurd (let short = no_longer tasks seen below distinct in omega arith)
    some_ready (suc room) order t seen away within distinct below leads long =
        by_test (λ i more away_i. some_ready room order i (t ∷ seen) away_i (ends i t more) (and_from (not (is_among t seen)) (is_distinct seen) (not_from_false (is_among t seen) not_seen) distinct)
        (and_from (nat_lt t tasks) (all_below tasks seen) (lt-ltb t tasks within) below) (on_all i more) (omega arith))
        (cases_Bool (list_all (λ (e : Edge). not (e.to == t) || is_among e.from order) edges))
      where
        not_seen : is_among t seen ≡ false
        not_seen = false_from_ne_true (is_among t seen) (λ among. never_back edges t acyclic (leads t among))

        on_all : (i : ℕ) → has_edge edges i t ≡ true → LeadsToAll i (t ∷ seen)
        on_all i more s among = by_first (or_cases (t == s) (is_among s seen) among)
          where
            by_first : ((t == s) ≡ true) ⊎ (is_among s seen ≡ true) → Leads edges i s
            by_first (inl e) = subst (λ (n : ℕ). Leads edges i n) (eqb-true t s e) (leads_edge edges i t more)
            by_first (inr others) = leads_on edges i t s (leads_edge edges i t more) (leads s others)

        by_test : ((i : ℕ) → has_edge edges i t ≡ true → is_among i order ≡ false → (r : ℕ) × (r < tasks) × (is_ready edges order r ≡ true))
            → (list_all (λ (e : Edge). not (e.to == t) || is_among e.from order) edges ≡ true) ⊎ (list_all (λ (e : Edge). not (e.to == t) || is_among e.from order) edges ≡ false)
            → (r : ℕ) × (r < tasks) × (is_ready edges order r ≡ true)
        by_test on (inl all) = (t, within, and_from (not (is_among t order)) (list_all (λ (e : Edge). not (e.to == t) || is_among e.from order) edges) (not_from_false (is_among t order) away) all)
        by_test on (inr some) = let it = waits_for order t edges some in on it.0 it.1 it.2
        -- ---- an order in which each stands once, after those that it waits for

abbrev pub ordered : List Edge → List ℕ → List ℕ → Bool
ordered edges before [] = true
ordered edges before (t ∷ rest) = is_ready edges before t && ordered edges (before ++ t ∷ []) rest

pub ordered_push : (edges : List Edge) (before rest : List ℕ) (t : ℕ) → ordered edges before rest ≡ true → is_ready edges (before ++ rest) t ≡ true → ordered edges before (rest ++ t ∷ []) ≡ true
ordered_push edges before [] t so_far ready = and_from (is_ready edges before t) true (subst (λ (xs : List ℕ). is_ready edges xs t ≡ true) (append-nil before) ready) refl
ordered_push edges before (x ∷ rest) t so_far ready =
    let parts = and_parts (is_ready edges before x) (ordered edges (before ++ x ∷ []) rest) so_far in
    and_from (is_ready edges before x) (ordered edges (before ++ x ∷ []) (rest ++ t ∷ [])) parts.0
    (ordered_push edges (before ++ x ∷ []) rest t parts.1 (subst (λ (xs : List ℕ). is_ready edges xs t ≡ true) (sym (append_assoc before (x ∷ []) rest)) ready))

-- what stands before stands not behind
fresh : (edges : List Edge) (before rest : List ℕ) (n : ℕ) → ordered edges before rest ≡ true → is_among n before ≡ true → is_among n rest ≡ false
fresh edges before [] n so_far among = refl
fresh edges before (t ∷ rest) n so_far among =
    let parts = and_parts (is_ready edges before t) (ordered edges (before ++ t ∷ []) rest) so_far in
    let ready = and_parts (not (is_among t before)) (list_all (λ (e : Edge). not (e.to == t) || is_among e.from before) edges) parts.0 in
    or_from (t == n) (is_among n rest) (ne_eqb t n (λ e. both_ways (is_among n before) (subst (λ (m : ℕ). is_among m before ≡ false) e (not-true (is_among t before) ready.0)) among))
    (fresh edges (before ++ t ∷ []) rest n parts.1 (among_push n before t ∙ or_left (is_among n before) (t == n) among))

pushed_there : (before : List ℕ) (t : ℕ) → is_among t (before ++ t ∷ []) ≡ true
pushed_there before t = among_push t before t ∙ or_right (is_among t before) (t == t) (eq-eqb t t refl)

pub ordered_distinct : (edges : List Edge) (before rest : List ℕ) → ordered edges before rest ≡ true → is_distinct rest ≡ true
ordered_distinct edges before [] so_far = refl
ordered_distinct edges before (t ∷ rest) so_far =
    let parts = and_parts (is_ready edges before t) (ordered edges (before ++ t ∷ []) rest) so_far in
    and_from (not (is_among t rest)) (is_distinct rest) (not_from_false (is_among t rest) (fresh edges (before ++ t ∷ []) rest t parts.1 (pushed_there before t))) (ordered_distinct edges (before ++ t ∷ []) rest parts.1)

-- each edge leads from an earlier place to a later one
kept : (edges : List Edge) (i j : ℕ) → has_edge edges i j ≡ true → (before rest : List ℕ) → ordered edges before rest ≡ true → is_among i before ≡ false → is_among j rest ≡ true → place_in rest i < place_in rest j
kept edges i j edge before [] so_far away among = absurd (both_ways false refl among)
kept edges i j edge before (t ∷ rest) so_far away among = by_to (λ fresh_i more. kept edges i j edge (before ++ t ∷ []) rest parts.1 fresh_i more) (cases_eq t j) (cases_eq t i)
  where
    parts : (is_ready edges before t ≡ true) × (ordered edges (before ++ t ∷ []) rest ≡ true)
    parts = and_parts (is_ready edges before t) (ordered edges (before ++ t ∷ []) rest) so_far

    upstream : t ≡ j → is_among i before ≡ true
    upstream e =
        let ready = and_parts (not (is_among t before)) (list_all (λ (e : Edge). not (e.to == t) || is_among e.from before) edges) parts.0 in
        ap (λ (b : Bool). not b || is_among i before) (sym (eq-eqb j t (sym e))) ∙ has_edge_passes (λ (e : Edge). not (e.to == t) || is_among e.from before) edges i j ready.1 edge

    by_to : (is_among i (before ++ t ∷ []) ≡ false → is_among j rest ≡ true → place_in rest i < place_in rest j) → (t ≡ j) ⊎ (t ≡ j → ⊥) → (t ≡ i) ⊎ (t ≡ i → ⊥) → place_in (t ∷ rest) i < place_in (t ∷ rest) j
    by_to more (inl e) from = absurd (both_ways (is_among i before) away (upstream e))
    by_to more (inr other) (inl e) =
        let first : place_in (t ∷ rest) i ≡ 0 = ap (λ (b : Bool). cond b 0 (suc (place_in rest i))) (eq-eqb t i e) in
        let later : place_in (t ∷ rest) j ≡ suc (place_in rest j) = ap (λ (b : Bool). cond b 0 (suc (place_in rest j))) (ne_eqb t j other) in
        omega arith
    by_to more (inr other) (inr apart) =
        let first : place_in (t ∷ rest) i ≡ suc (place_in rest i) = ap (λ (b : Bool). cond b 0 (suc (place_in rest i))) (ne_eqb t i apart) in
        let later : place_in (t ∷ rest) j ≡ suc (place_in rest j) = ap (λ (b : Bool). cond b 0 (suc (place_in rest j))) (ne_eqb t j other) in
        let less = more (among_push i before t ∙ or_from (is_among i before) (t == i) away (ne_eqb t i apart)) (ap (λ (b : Bool). b || is_among j rest) (sym (ne_eqb t j other)) ∙ among) in
        omega arith

-- ---- packing

pub order_pushed : (puts : List Put) (p : Put) → order_of (puts ++ p ∷ []) ≡ order_of puts ++ p.task ∷ []
order_pushed [] p = refl
order_pushed (q ∷ puts) p = ap (λ (xs : List ℕ). q.task ∷ xs) (order_pushed puts p)

length_pushed : (xs : List ℕ) (t : ℕ) → length (xs ++ t ∷ []) ≡ suc (length xs)
length_pushed [] t = refl
length_pushed (x ∷ xs) t = ap suc (length_pushed xs t)

pub below_pushed : (bound : ℕ) (xs : List ℕ) (t : ℕ) → all_below bound xs ≡ true → nat_lt t bound ≡ true → all_below bound (xs ++ t ∷ []) ≡ true
below_pushed bound [] t all here = and_from (nat_lt t bound) true here refl
below_pushed bound (x ∷ xs) t all here = let parts = and_parts (nat_lt x bound) (all_below bound xs) all in and_from (nat_lt x bound) (all_below bound (xs ++ t ∷ [])) parts.0 (below_pushed bound xs t parts.1 here)

some_choice : (edges : List Edge) (cost : ℕ → ℕ) (puts : List Put) (threads r : ℕ) → 0 < threads → (list : List ℕ) → is_among r list ≡ true → 0 < length (choices_of edges cost puts threads list)
some_choice edges cost puts threads r some [] among = absurd (both_ways false refl among)
some_choice edges cost puts zero r some (t ∷ list) among = absurd (omega arith)
some_choice edges cost puts (suc n) r some (t ∷ list) among = omega arith

-- the tasks in the order of their placement: each stands once, after those that it waits for
pub record IsPacking (tasks threads : ℕ) (edges : List Edge) (puts : List Put) : Type 0 where
  pub in_order : ordered edges [] (order_of puts) ≡ true
  pub below : all_below tasks (order_of puts) ≡ true
  pub on_threads : all_below threads (map (λ (p : Put). p.thread) puts) ≡ true

pub threads_pushed : (puts : List Put) (p : Put) → map (λ (q : Put). q.thread) (puts ++ p ∷ []) ≡ map (λ (q : Put). q.thread) puts ++ p.thread ∷ []
threads_pushed [] p = refl
threads_pushed (q ∷ puts) p = ap (λ (xs : List ℕ). q.thread ∷ xs) (threads_pushed puts p)

module _ (tasks threads : ℕ) (edges : List Edge) (cost tail : ℕ → ℕ) (acyclic : HasNoCycle edges) (ends : (i j : ℕ) → has_edge edges i j ≡ true → i < tasks) (some_thread : 0 < threads) where
  one_ready : (order : List ℕ) → length order < tasks → (r : ℕ) × (r < tasks) × (is_ready edges order r ≡ true)
  one_ready order few = by_left (left_or_all tasks order)
    where
      by_left : ((k : ℕ) × (k < tasks) × (is_among k order ≡ false)) ⊎ ((k : ℕ) → k < tasks → is_among k order ≡ true) → (r : ℕ) × (r < tasks) × (is_ready edges order r ≡ true)
      by_left (inr all) = absurd (let many = all_there tasks order all in omega arith)
      by_left (inl it) = some_ready tasks threads edges cost tail acyclic ends (suc tasks) order it.0 [] it.2 it.1 refl refl (λ s among. absurd (both_ways false refl among)) (omega arith)

  pub turn : (puts : List Put) → IsPacking tasks threads edges puts → length (order_of puts) < tasks
      → (p : Put) × (first_of tail None (choices tasks threads edges cost puts) ≡ Some p) × (IsPacking tasks threads edges (puts ++ p ∷ []))
  turn puts so_far few =
      let r = one_ready (order_of puts) few in
      let listed : is_among r.0 (filter (is_ready edges (order_of puts)) (range_with_len 0 tasks)) ≡ true =
      among_filter (is_ready edges (order_of puts)) (range_with_len 0 tasks) r.0 ∙ and_from (is_ready edges (order_of puts) r.0) (is_among r.0 (range_with_len 0 tasks)) r.2 (range_has tasks 0 r.0 (omega arith) (let less = r.1 in omega arith)) in
      let there = chosen_there tail (choices tasks threads edges cost puts) (some_choice edges cost puts threads r.0 some_thread (filter (is_ready edges (order_of puts)) (range_with_len 0 tasks)) listed) in
      let fit : fits tasks threads edges cost tail (order_of puts) there.put ≡ true = subst (λ (o : Option Put). PassesIf (fits tasks threads edges cost tail (order_of puts)) o) there.is (chosen_passes (fits tasks threads edges cost tail (order_of puts)) tail None (choices tasks threads edges cost puts) record {} (choices_fit tasks threads edges cost tail puts)) in
      let parts = and_parts (nat_lt there.put.task tasks && is_ready edges (order_of puts) there.put.task) (nat_lt there.put.thread threads) fit in
      let first = and_parts (nat_lt there.put.task tasks) (is_ready edges (order_of puts) there.put.task) parts.0 in (
        there.put,
        there.is,
        record {
          in_order = subst (λ (xs : List ℕ). ordered edges [] xs ≡ true) (sym (order_pushed puts there.put)) (ordered_push edges [] (order_of puts) there.put.task so_far.in_order first.1);
          below = subst (λ (xs : List ℕ). all_below tasks xs ≡ true) (sym (order_pushed puts there.put)) (below_pushed tasks (order_of puts) there.put.task so_far.below first.0);
          on_threads = subst (λ (xs : List ℕ). all_below threads xs ≡ true) (sym (threads_pushed puts there.put)) (below_pushed threads (map (λ (p : Put). p.thread) puts) there.put.thread so_far.on_threads parts.1);
        },
      )

  turns_pack : (turns : ℕ) (puts : List Put) → IsPacking tasks threads edges puts → length (order_of puts) + turns ≡ tasks
      → IsPacking tasks threads edges (pack_turns turns tasks threads edges cost tail puts) × (length (order_of (pack_turns turns tasks threads edges cost tail puts)) ≡ tasks)
  turns_pack zero puts so_far many = (so_far, omega arith)
  turns_pack (suc turns) puts so_far many =
      let it = turn puts so_far (omega arith) in
      let rest = turns_pack turns (puts ++ it.0 ∷ []) it.2 (let more = ap length (order_pushed puts it.0) ∙ length_pushed (order_of puts) it.0.task in omega arith) in
      subst (λ (o : Option Put). IsPacking tasks threads edges (put_next puts o (pack_turns turns tasks threads edges cost tail)) × (length (order_of (put_next puts o (pack_turns turns tasks threads edges cost tail))) ≡ tasks)) (sym it.1) rest

  abbrev result : List Put
  result = packed tasks threads edges cost tail

  pub packs : IsPacking tasks threads edges result × (length (order_of result) ≡ tasks)
  packs = turns_pack tasks [] (record { in_order = refl; below = refl; on_threads = refl }) (omega arith)

  each_there : (k : ℕ) → k < tasks → is_among k (order_of result) ≡ true
  each_there k less = by_among (cases_Bool (is_among k (order_of result)))
    where
      by_among : (is_among k (order_of result) ≡ true) ⊎ (is_among k (order_of result) ≡ false) → is_among k (order_of result) ≡ true
      by_among (inl among) = among
      by_among (inr away) =
          let long = no_longer tasks (k ∷ order_of result) (and_from (nat_lt k tasks) (all_below tasks (order_of result)) (lt-ltb k tasks less) packs.0.below)
          (and_from (not (is_among k (order_of result))) (is_distinct (order_of result)) (not_from_false (is_among k (order_of result)) away) (ordered_distinct edges [] (order_of result) packs.0.in_order)) in
          let many = packs.1 in
          absurd (omega arith)

  none_past : (xs : List ℕ) (k : ℕ) → all_below tasks xs ≡ true → tasks ≤ k → is_among k xs ≡ false
  none_past [] k below past = refl
  none_past (x ∷ xs) k below past =
      let parts = and_parts (nat_lt x tasks) (all_below tasks xs) below in
      let less = ltb-true x tasks parts.0 in
      or_from (x == k) (is_among k xs) (ne_eqb x k (λ e. omega arith)) (none_past xs k parts.1 past)

  -- each task is placed once
  pub placed_once : ExactlyOnce tasks (order_of result ∷ [])
  placed_once n = ap (times n) (append-nil (order_of result)) ∙ times_distinct (order_of result) n (ordered_distinct edges [] (order_of result) packs.0.in_order) ∙ by_below (cases_lt n tasks)
    where
      by_below : (n < tasks) ⊎ (tasks ≤ n) → ◌≡◌ {A = ℕ} (cond (is_among n (order_of result)) 1 0) (cond (nat_lt n tasks) 1 0)
      by_below (inl less) = ap (λ (b : Bool). cond b 1 0) (each_there n less) ∙ sym (ap (λ (b : Bool). cond b 1 0) (lt-ltb n tasks less))
      by_below (inr past) = ap (λ (b : Bool). cond b 1 0) (none_past (order_of result) n packs.0.below past) ∙ sym (ap (λ (b : Bool). cond b 1 0) (le-ltb n tasks past))

  -- and after those that it waits for
  pub placed_after : (i j : ℕ) → has_edge edges i j ≡ true → j < tasks → place_in (order_of result) i < place_in (order_of result) j
  placed_after i j edge less = kept edges i j edge [] (order_of result) packs.0.in_order refl (each_there j less)

-- ---- the lists of the threads

concat_none : (ths : List ℕ) → concat (map (on_thread []) ths) ≡ []
concat_none [] = refl
concat_none (k ∷ ths) = concat_none ths

one_more : (n : ℕ) (p : Put) (puts : List Put) (ths : List ℕ)
    → times n (concat (map (on_thread (p ∷ puts)) ths)) ≡ cond (p.task == n) (times p.thread ths) 0 + times n (concat (map (on_thread puts) ths))
one_more n p puts [] = by_task (p.task == n)
  where
    by_task : (b : Bool) → ◌≡◌ {A = ℕ} 0 (cond b 0 0 + 0)
    by_task true = omega arith
    by_task false = omega arith
one_more n p puts (k ∷ ths) =
    times_both n (on_thread (p ∷ puts) k) (concat (map (on_thread (p ∷ puts)) ths))
    ∙ by_both (one_more n p puts ths) (p.thread == k) refl (p.task == n) refl
  where
    by_both : times n (concat (map (on_thread (p ∷ puts)) ths)) ≡ cond (p.task == n) (times p.thread ths) 0 + times n (concat (map (on_thread puts) ths))
        → (b : Bool) → (p.thread == k) ≡ b → (c : Bool) → (p.task == n) ≡ c
        → times n (on_thread (p ∷ puts) k) + times n (concat (map (on_thread (p ∷ puts)) ths))
        ≡ cond (p.task == n) (cond (k == p.thread) 1 0 + times p.thread ths) 0 + times n (on_thread puts k ++ concat (map (on_thread puts) ths))
    by_both more b thread c task =
        let here = ap (λ (x : Bool). times n (order_of (cond x (p ∷ filter (λ (q : Put). q.thread == k) puts) (filter (λ (q : Put). q.thread == k) puts)))) thread in
        let split = times_both n (on_thread puts k) (concat (map (on_thread puts) ths)) in
        let rest : times n (concat (map (on_thread (p ∷ puts)) ths)) ≡ cond c (times p.thread ths) 0 + times n (concat (map (on_thread puts) ths)) = more ∙ ap (λ (x : Bool). cond x (times p.thread ths) 0 + times n (concat (map (on_thread puts) ths))) task in
        let right : cond (p.task == n) (cond (k == p.thread) 1 0 + times p.thread ths) 0 ≡ cond c (cond b 1 0 + times p.thread ths) 0 =
        ap (λ (x : Bool). cond x (cond (k == p.thread) 1 0 + times p.thread ths) 0) task ∙ ap (λ (x : Bool). cond c (cond x 1 0 + times p.thread ths) 0) (eqb_turned k p.thread ∙ thread) in
        let first = first_times b c task in
        summed b c (times n (on_thread (p ∷ puts) k)) (times n (on_thread puts k)) (times n (concat (map (on_thread (p ∷ puts)) ths))) (times n (concat (map (on_thread puts) ths))) (times p.thread ths)
        (here ∙ first) rest
        ∙ ap (λ (i : ℕ). i + (times n (on_thread puts k) + times n (concat (map (on_thread puts) ths)))) (sym right)
        ∙ ap (λ (i : ℕ). cond (p.task == n) (cond (k == p.thread) 1 0 + times p.thread ths) 0 + i) (sym split)
      where
        first_times : (b c : Bool) → (p.task == n) ≡ c → times n (order_of (cond b (p ∷ filter (λ (q : Put). q.thread == k) puts) (filter (λ (q : Put). q.thread == k) puts))) ≡ cond b (cond c 1 0) 0 + times n (on_thread puts k)
        first_times true c task = ap (λ (x : Bool). cond x 1 0 + times n (on_thread puts k)) task
        first_times false c task = sym (none_more (times n (on_thread puts k)))

        summed : (b c : Bool) (here here_old more_new more_old count : ℕ) → here ≡ cond b (cond c 1 0) 0 + here_old → more_new ≡ cond c count 0 + more_old
            → here + more_new ≡ cond c (cond b 1 0 + count) 0 + (here_old + more_old)
        summed true true a b c d e p q = omega arith
        summed true false a b c d e p q = omega arith
        summed false true a b c d e p q = omega arith
        summed false false a b c d e p q = omega arith

pub lists_hold_all : (n threads : ℕ) (puts : List Put) → all_below threads (map (λ (p : Put). p.thread) puts) ≡ true → times n (concat (lists_of threads puts)) ≡ times n (order_of puts)
lists_hold_all n threads [] below = ap (times n) (concat_none (range_with_len 0 threads))
lists_hold_all n threads (p ∷ puts) below =
    let parts = and_parts (nat_lt p.thread threads) (all_below threads (map (λ (q : Put). q.thread) puts)) below in
    one_more n p puts (range_with_len 0 threads)
    ∙ ap (λ (i : ℕ). cond (p.task == n) i 0 + times n (concat (lists_of threads puts))) (times_range threads p.thread ∙ ap (λ (b : Bool). cond b 1 0) parts.0)
    ∙ ap (λ (i : ℕ). cond (p.task == n) 1 0 + i) (lists_hold_all n threads puts parts.1)

module _ (tasks threads : ℕ) (edges : List Edge) (cost tail : ℕ → ℕ) (acyclic : HasNoCycle edges) (ends : (i j : ℕ) → has_edge edges i j ≡ true → i < tasks) (some_thread : 0 < threads) where
  -- each task is in exactly one thread's list
  pub threaded_once : ExactlyOnce tasks (lists_of threads (packed tasks threads edges cost tail))
  threaded_once n =
      lists_hold_all n threads (packed tasks threads edges cost tail) (packs tasks threads edges cost tail acyclic ends some_thread).0.on_threads
      ∙ ap (times n) (sym (append-nil (order_of (packed tasks threads edges cost tail))))
      ∙ placed_once tasks threads edges cost tail acyclic ends some_thread n
