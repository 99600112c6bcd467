-- The tables of packing hold what the definition tells of the placements.
use Rattle.std.proofs.Common.{◌≡◌, ◌+◌, ◌-◌, ◌/◌, ◌<◌, ◌≤◌, ◌==◌, ℕ, zero, suc, List, [], ◌∷◌, ◌++◌, length, map, max, fold, get_or, append-nil, append_assoc, Bool, true, false, not, cond, ◌&&◌, ◌||◌, nat_lt, Option, Some, None, refl, sym, ap, subst, ◌∙◌, inl, inr, ◌⊎◌, arith}
use Rattle.std.specs.List.{list_all, filter, range_with_len}
use Rattle.std.proofs.lemmas.Bool.{cases_lt, cases_eq, eq-eqb, ne_eqb, and_parts, lt-ltb}
use Rattle.plan_graph.specs.declared.node.Edge.{Edge}
use Rattle.plan_graph.specs.Graphs.{ends_within, has_edge, joins, is_among}
use Rattle.plan_graph.specs.ListLaws.{all_below, range_from_0, filter_push, map_push, fold_push}
use Rattle.order_levels.specs.Sets.{targets_of}
use Rattle.node_sets.specs.Sets.{is_member}
use Rattle.thread_pack.specs.declared.put.Put.{Put}
use Rattle.thread_pack.specs.Packing.{order_of, is_ready, free_at, given_at, start_at, on_each, choices_of, choices, pick, first_of}
use Rattle.thread_pack.specs.Tables.{arrives_at, put_on, row_choices, choices_by, members_below, Holds}

-- ---- the choice, one by one

first_both : (tail : ℕ → ℕ) (best : Option Put) (xs ys : List Put) → first_of tail best (xs ++ ys) ≡ first_of tail (first_of tail best xs) ys
first_both tail best [] ys = refl
first_both tail best (x ∷ xs) ys = first_both tail (Some (pick tail best x)) xs ys

pub on_one_more : (tail : ℕ → ℕ) (best : Option Put) (t : ℕ) (free row : List ℕ) (n : ℕ)
    → first_of tail best (row_choices t free row (n + 1)) ≡ Some (pick tail (first_of tail best (row_choices t free row n)) (put_on t free row n))
on_one_more tail best t free row n =
    ap (λ (ks : List ℕ). first_of tail best (map (put_on t free row) ks)) (range_from_0 n)
    ∙ ap (first_of tail best) (map_push (put_on t free row) (range_with_len 0 n) n)
    ∙ first_both tail best (row_choices t free row n) (put_on t free row n ∷ [])

by_both : (free : List ℕ) (arrive : List (List ℕ)) (threads : ℕ) (xs ys : List ℕ) → choices_by free arrive threads (xs ++ ys) ≡ choices_by free arrive threads xs ++ choices_by free arrive threads ys
by_both free arrive threads [] ys = refl
by_both free arrive threads (x ∷ xs) ys =
    ap (λ (ps : List Put). row_choices x free (get_or arrive x []) threads ++ ps) (by_both free arrive threads xs ys)
    ∙ sym (append_assoc (row_choices x free (get_or arrive x []) threads) (choices_by free arrive threads xs) (choices_by free arrive threads ys))

pub choose_more : (tail : ℕ → ℕ) (free : List ℕ) (arrive : List (List ℕ)) (threads : ℕ) (words : List ℕ) (n : ℕ) (b : Bool) → is_member words n ≡ b
    → first_of tail None (choices_by free arrive threads (members_below words (n + 1)))
    ≡ cond b (first_of tail (first_of tail None (choices_by free arrive threads (members_below words n))) (row_choices n free (get_or arrive n []) threads)) (first_of tail None (choices_by free arrive threads (members_below words n)))
choose_more tail free arrive threads words n b is =
    ap (λ (ks : List ℕ). first_of tail None (choices_by free arrive threads (filter (is_member words) ks))) (range_from_0 n)
    ∙ ap (λ (ks : List ℕ). first_of tail None (choices_by free arrive threads ks)) (filter_push (is_member words) (range_with_len 0 n) n)
    ∙ ap (first_of tail None) (by_both free arrive threads (members_below words n) (cond (is_member words n) (n ∷ []) []))
    ∙ first_both tail None (choices_by free arrive threads (members_below words n)) (choices_by free arrive threads (cond (is_member words n) (n ∷ []) []))
    ∙ ap (λ (c : Bool). first_of tail (first_of tail None (choices_by free arrive threads (members_below words n))) (choices_by free arrive threads (cond c (n ∷ []) []))) is
    ∙ at b
  where
    before : Option Put
    before = first_of tail None (choices_by free arrive threads (members_below words n))

    at : (b : Bool) → first_of tail before (choices_by free arrive threads (cond b (n ∷ []) [])) ≡ cond b (first_of tail before (row_choices n free (get_or arrive n []) threads)) before
    at true = ap (first_of tail before) (append-nil (row_choices n free (get_or arrive n []) threads))
    at false = refl

-- ---- the choices are those of the definition

start_from : (edges : List Edge) (cost : ℕ → ℕ) (t k a b : ℕ) (puts : List Put)
    → fold (λ (most : ℕ) (p : Put). cond (has_edge edges p.task t) (max most (given_at cost k p)) most) (max a b) puts
    ≡ max a (fold (λ (most : ℕ) (p : Put). cond (has_edge edges p.task t) (max most (given_at cost k p)) most) b puts)
start_from edges cost t k a b [] = refl
start_from edges cost t k a b (p ∷ puts) =
    ap (λ (n : ℕ). fold (λ (most : ℕ) (p : Put). cond (has_edge edges p.task t) (max most (given_at cost k p)) most) n puts) (by_test (has_edge edges p.task t) (given_at cost k p))
    ∙ start_from edges cost t k a (cond (has_edge edges p.task t) (max b (given_at cost k p)) b) puts
  where
    by_test : (c : Bool) (g : ℕ) → cond c (max (max a b) g) (max a b) ≡ max a (cond c (max b g) b)
    by_test true g = omega arith
    by_test false g = refl

pub starts_are : (edges : List Edge) (cost : ℕ → ℕ) (puts : List Put) (t k : ℕ) → start_at edges cost puts t k ≡ max (free_at cost k puts) (arrives_at edges cost puts t k)
starts_are edges cost puts t k =
    ap (λ (n : ℕ). fold (λ (most : ℕ) (p : Put). cond (has_edge edges p.task t) (max most (given_at cost k p)) most) n puts) none
    ∙ start_from edges cost t k (free_at cost k puts) 0 puts
  where
    none : free_at cost k puts ≡ max (free_at cost k puts) 0
    none = omega arith

filter_same : (p q : ℕ → Bool) (n a : ℕ) → ((k : ℕ) → a ≤ k → k < a + n → p k ≡ q k) → filter p (range_with_len a n) ≡ filter q (range_with_len a n)
filter_same p q zero a same = refl
filter_same p q (suc n) a same = (λ i. cond (same a (omega arith) (omega arith) i) (a ∷ filter_same p q n (a + 1) (λ k low high. same k (omega arith) (omega arith)) i) (filter_same p q n (a + 1) (λ k low high. same k (omega arith) (omega arith)) i))

map_same : (f g : ℕ → Put) (n a : ℕ) → ((k : ℕ) → a ≤ k → k < a + n → f k ≡ g k) → map f (range_with_len a n) ≡ map g (range_with_len a n)
map_same f g zero a same = refl
map_same f g (suc n) a same = (λ i. same a (omega arith) (omega arith) i ∷ map_same f g n (a + 1) (λ k low high. same k (omega arith) (omega arith)) i)

kept_below : (p : ℕ → Bool) (bound n a : ℕ) → a + n ≤ bound → all_below bound (filter p (range_with_len a n)) ≡ true
kept_below p bound zero a room = refl
kept_below p bound (suc n) a room = by_test (p a) (kept_below p bound n (a + 1) (omega arith))
  where
    by_test : (b : Bool) → all_below bound (filter p (range_with_len (a + 1) n)) ≡ true → all_below bound (cond b (a ∷ filter p (range_with_len (a + 1) n)) (filter p (range_with_len (a + 1) n))) ≡ true
    by_test true more = (λ i. lt-ltb a bound (omega arith) i && more i)
    by_test false more = more

module _ (tasks threads : ℕ) (edges : List Edge) (cost : ℕ → ℕ) (puts : List Put) (free : List ℕ) (arrive : List (List ℕ)) (holds : Holds tasks threads edges cost puts free arrive) where
  row_is : (t : ℕ) → t < tasks → row_choices t free (get_or arrive t []) threads ≡ on_each edges cost puts threads t
  row_is t within = map_same (put_on t free (get_or arrive t [])) (λ (k : ℕ). record { task = t; thread = k; start = start_at edges cost puts t k }) threads 0 (λ k low high. at k (omega arith))
    where
      at : (k : ℕ) → k < threads → put_on t free (get_or arrive t []) k ≡ record { task = t; thread = k; start = start_at edges cost puts t k }
      at k inside = (λ i. record { task = t; thread = k; start = ((λ j. max (holds.frees k inside j) (holds.arrives t k within inside j)) ∙ sym (starts_are edges cost puts t k)) i })

  rows_are : (list : List ℕ) → all_below tasks list ≡ true → choices_by free arrive threads list ≡ choices_of edges cost puts threads list
  rows_are [] below = refl
  rows_are (t ∷ list) below =
      let parts = and_parts (nat_lt t tasks) (all_below tasks list) below in
      (λ i. row_is t (from_lt parts.0) i ++ rows_are list parts.1 i)
    where
      from_lt : nat_lt t tasks ≡ true → t < tasks
      from_lt e = grind arith

  pub choices_are : (words : List ℕ) → ((n : ℕ) → is_member words n ≡ (nat_lt n tasks && is_ready edges (order_of puts) n))
      → choices_by free arrive threads (members_below words tasks) ≡ choices tasks threads edges cost puts
  choices_are words members =
      ap (choices_by free arrive threads) (filter_same (is_member words) (is_ready edges (order_of puts)) tasks 0 (λ k low high. members k ∙ ap (λ (b : Bool). b && is_ready edges (order_of puts) k) (lt-ltb k tasks (omega arith))))
      ∙ rows_are (filter (is_ready edges (order_of puts)) (range_with_len 0 tasks)) (kept_below (is_ready edges (order_of puts)) tasks tasks 0 (omega arith))

-- ---- a task more is placed

pub free_more : (cost : ℕ → ℕ) (k : ℕ) (puts : List Put) (p : Put) → free_at cost k (puts ++ p ∷ []) ≡ cond (p.thread == k) (p.start + cost p.task) (free_at cost k puts)
free_more cost k puts p = fold_push (λ (so_far : ℕ) (p : Put). cond (p.thread == k) (p.start + cost p.task) so_far) 0 puts p

pub arrives_more : (edges : List Edge) (cost : ℕ → ℕ) (puts : List Put) (p : Put) (t k : ℕ)
    → arrives_at edges cost (puts ++ p ∷ []) t k ≡ cond (has_edge edges p.task t) (max (arrives_at edges cost puts t k) (given_at cost k p)) (arrives_at edges cost puts t k)
arrives_more edges cost puts p t k = fold_push (λ (most : ℕ) (p : Put). cond (has_edge edges p.task t) (max most (given_at cost k p)) most) 0 puts p

pub targets_are : (n m : ℕ) (edges : List Edge) → is_among m (targets_of n edges) ≡ has_edge edges n m
targets_are n m [] = refl
targets_are n m (e ∷ edges) = by_test (targets_are n m edges) (e.from == n)
  where
    by_test : is_among m (targets_of n edges) ≡ has_edge edges n m → (b : Bool) → is_among m (map (λ (e : Edge). e.to) (cond b (e ∷ filter (λ (e : Edge). e.from == n) edges) (filter (λ (e : Edge). e.from == n) edges))) ≡ ((b && (e.to == m)) || has_edge edges n m)
    by_test more true = ap (λ (c : Bool). (e.to == m) || c) more
    by_test more false = more

pub holds_more : (tasks threads : ℕ) (edges : List Edge) (cost : ℕ → ℕ) (puts : List Put) (free free' : List ℕ) (arrive arrive' : List (List ℕ)) (p : Put) (c : ℕ) (targets : List ℕ)
    → cost p.task ≡ c → targets ≡ targets_of p.task edges → Holds tasks threads edges cost puts free arrive
    → length free' ≡ length free → length arrive' ≡ length arrive → ((n : ℕ) → length (get_or arrive' n []) ≡ length (get_or arrive n []))
    → ((k : ℕ) → get_or free' k 0 ≡ cond (p.thread == k) (p.start + c) (get_or free k 0))
    → ((n k : ℕ) → k < length (get_or arrive n []) → get_or (get_or arrive' n []) k 0 ≡ cond (is_among n targets) (max (get_or (get_or arrive n []) k 0) (p.start + c + cond (p.thread == k) 0 ((c + 3) / 4))) (get_or (get_or arrive n []) k 0))
    → Holds tasks threads edges cost (puts ++ p ∷ []) free' arrive'
holds_more tasks threads edges cost puts free free' arrive arrive' p c targets costs list holds free_len arrive_len row_len frees rows = record {
  threads_len = free_len ∙ holds.threads_len;
  tasks_len = arrive_len ∙ holds.tasks_len;
  rows_len = λ t less. row_len t ∙ holds.rows_len t less;
  frees = λ k less. frees k ∙ (λ i. cond (p.thread == k) (p.start + sym costs i) (holds.frees k less i)) ∙ sym (free_more cost k puts p);
  arrives = λ t k less inside.
      rows t k (let len = holds.rows_len t less in omega arith)
      ∙ (λ i. cond ((ap (is_among t) list ∙ targets_are p.task t edges) i) (max (holds.arrives t k less inside i) (p.start + sym costs i + cond (p.thread == k) 0 ((sym costs i + 3) / 4))) (holds.arrives t k less inside i))
      ∙ sym (arrives_more edges cost puts p t k);
}

pub targets_below : (nodes n : ℕ) (edges : List Edge) → list_all (ends_within nodes) edges ≡ true → all_below nodes (targets_of n edges) ≡ true
targets_below nodes n [] all = refl
targets_below nodes n (e ∷ edges) all = by_test (e.from == n) (targets_below nodes n edges (and_parts (ends_within nodes e) (list_all (ends_within nodes) edges) all).1)
  where
    by_test : (b : Bool) → all_below nodes (targets_of n edges) ≡ true → all_below nodes (map (λ (e : Edge). e.to) (cond b (e ∷ filter (λ (e : Edge). e.from == n) edges) (filter (λ (e : Edge). e.from == n) edges))) ≡ true
    by_test true more =
        let parts = and_parts (ends_within nodes e) (list_all (ends_within nodes) edges) all in
        let ends = and_parts (nat_lt e.from nodes) (nat_lt e.to nodes) parts.0 in
        (λ i. ends.1 i && more i)
    by_test false more = more

-- what the tables choose is what the definition chooses
pub next_choice : (tasks threads : ℕ) (edges : List Edge) (cost : ℕ → ℕ) (puts : List Put) (free free' : List ℕ) (arrive arrive' : List (List ℕ)) (tails tails' words : List ℕ) (r : Option Put)
    → Holds tasks threads edges cost puts free arrive → ((n : ℕ) → is_member words n ≡ (nat_lt n tasks && is_ready edges (order_of puts) n))
    → free' ≡ free → arrive' ≡ arrive → tails' ≡ tails
    → r ≡ first_of (λ k. get_or tails' k 0) None (choices_by free' arrive' (length free') (members_below words (length arrive')))
    → first_of (λ k. get_or tails k 0) None (choices tasks threads edges cost puts) ≡ r
next_choice tasks threads edges cost puts free free' arrive arrive' tails tails' words r holds members same_free same_arrive same_tails is =
    ap (first_of (λ k. get_or tails k 0) None) (sym (choices_are tasks threads edges cost puts free arrive holds words members))
    ∙ sym (λ i. first_of (λ k. get_or (same_tails i) k 0) None (choices_by (same_free i) (same_arrive i) ((ap length same_free ∙ holds.threads_len) i) (members_below words ((ap length same_arrive ∙ holds.tasks_len) i))))
    ∙ sym is
