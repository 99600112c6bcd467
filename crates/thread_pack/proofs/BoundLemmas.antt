-- No start is past twice the cost of what is placed, so that times fit 64 bits; and what a placed task is like.
use Rattle.std.proofs.Common.{◌≡◌, ◌+◌, ◌-◌, ◌/◌, ◌<◌, ◌≤◌, ◌==◌, ◌^◌, ℕ, zero, suc, List, [], ◌∷◌, ◌++◌, length, map, max, fold, Bool, true, false, not, cond, ◌&&◌, ◌||◌, nat_lt, Option, Some, None, refl, sym, ap, subst, ◌∙◌, arith}
use Rattle.std.specs.List.{list_all, filter, range_with_len}
use Rattle.std.proofs.lemmas.Bool.{eq-eqb, eqb-true, and_parts, and_from, ltb-true, lt-ltb, not-true, not_from_false}
use Rattle.plan_graph.specs.declared.node.Edge.{Edge}
use Rattle.plan_graph.specs.Graphs.{has_edge, is_among, cost_of_all}
use Rattle.plan_graph.specs.ListLaws.{all_below, is_distinct, cost_push, costs_no_more}
use Rattle.thread_pack.specs.declared.put.Put.{Put}
use Rattle.thread_pack.specs.Packing.{order_of, is_ready, free_at, given_at, start_at, on_each, choices_of, choices, first_of, put_next, pack_turns}
use Rattle.thread_pack.proofs.PackLaws.{PassesIf, chosen_passes, choices_fit, fits, IsPacking, ordered, ordered_push, ordered_distinct, order_pushed, below_pushed, threads_pushed}

-- ---- no start is late

-- what is placed costs so much
abbrev pub load : (ℕ → ℕ) → List Put → ℕ
load cost puts = cost_of_all cost (order_of puts)

-- a quarter after each end no time is past a bound
abbrev pub AllEnd : (ℕ → ℕ) → ℕ → List Put → Type 0
AllEnd cost top [] = Unit {0}
AllEnd cost top (p ∷ puts) = (p.start + cost p.task + cost p.task ≤ top) × AllEnd cost top puts

all_end_later : (cost : ℕ → ℕ) (top later : ℕ) (puts : List Put) → top ≤ later → AllEnd cost top puts → AllEnd cost later puts
all_end_later cost top later [] low all = record {}
all_end_later cost top later (p ∷ puts) low all = (let here = all.0 in omega arith, all_end_later cost top later puts low all.1)

all_end_push : (cost : ℕ → ℕ) (top : ℕ) (puts : List Put) (p : Put) → AllEnd cost top puts → p.start + cost p.task + cost p.task ≤ top → AllEnd cost top (puts ++ p ∷ [])
all_end_push cost top [] p all here = (here, record {})
all_end_push cost top (q ∷ puts) p all here = (all.0, all_end_push cost top puts p all.1 here)

free_low : (cost : ℕ → ℕ) (k top from : ℕ) (puts : List Put) → from ≤ top → AllEnd cost top puts → fold (λ (so_far : ℕ) (p : Put). cond (p.thread == k) (p.start + cost p.task) so_far) from puts ≤ top
free_low cost k top from [] low all = low
free_low cost k top from (p ∷ puts) low all = free_low cost k top (cond (p.thread == k) (p.start + cost p.task) from) puts (by_test (p.thread == k)) all.1
  where
    by_test : (b : Bool) → cond b (p.start + cost p.task) from ≤ top
    by_test true = let here = all.0 in omega arith
    by_test false = low

start_low : (edges : List Edge) (cost : ℕ → ℕ) (t k top from : ℕ) (puts : List Put) → from ≤ top → AllEnd cost top puts
    → fold (λ (most : ℕ) (p : Put). cond (has_edge edges p.task t) (max most (given_at cost k p)) most) from puts ≤ top
start_low edges cost t k top from [] low all = low
start_low edges cost t k top from (p ∷ puts) low all =
    start_low edges cost t k top (cond (has_edge edges p.task t) (max from (given_at cost k p)) from) puts (by_test (has_edge edges p.task t) (p.thread == k)) all.1
  where
    by_test : (b c : Bool) → cond b (max from (p.start + cost p.task + cond c 0 ((cost p.task + 3) / 4))) from ≤ top
    by_test true true = let here = all.0 in omega arith
    by_test true false = let here = all.0 in omega arith
    by_test false c = low

pub starts_low : (edges : List Edge) (cost : ℕ → ℕ) (puts : List Put) (t k top : ℕ) → AllEnd cost top puts → start_at edges cost puts t k ≤ top
starts_low edges cost puts t k top all = start_low edges cost t k top (free_at cost k puts) puts (free_low cost k top 0 puts (omega arith) all) all

-- ---- what is chosen

abbrev starts_so : List Edge → (ℕ → ℕ) → List Put → Put → Bool
starts_so edges cost puts p = p.start == start_at edges cost puts p.task p.thread

module _ (tasks threads : ℕ) (edges : List Edge) (cost tail : ℕ → ℕ) (puts : List Put) where
  each_starts : (t n a : ℕ) → list_all (starts_so edges cost puts) (map (λ (k : ℕ). record { task = t; thread = k; start = start_at edges cost puts t k }) (range_with_len a n)) ≡ true
  each_starts t zero a = refl
  each_starts t (suc n) a = and_from (start_at edges cost puts t a == start_at edges cost puts t a) _ (eq-eqb (start_at edges cost puts t a) (start_at edges cost puts t a) refl) (each_starts t n (a + 1))

  both_start : (xs ys : List Put) → list_all (starts_so edges cost puts) xs ≡ true → list_all (starts_so edges cost puts) ys ≡ true → list_all (starts_so edges cost puts) (xs ++ ys) ≡ true
  both_start [] ys some others = others
  both_start (x ∷ xs) ys some others = let parts = and_parts (starts_so edges cost puts x) (list_all (starts_so edges cost puts) xs) some in and_from (starts_so edges cost puts x) (list_all (starts_so edges cost puts) (xs ++ ys)) parts.0 (both_start xs ys parts.1 others)

  all_start : (list : List ℕ) → list_all (starts_so edges cost puts) (choices_of edges cost puts threads list) ≡ true
  all_start [] = refl
  all_start (t ∷ list) = both_start (on_each edges cost puts threads t) (choices_of edges cost puts threads list) (each_starts t threads 0) (all_start list)

  pub record IsChosen (p : Put) : Type 0 where
    pub task : p.task < tasks
    pub thread : p.thread < threads
    pub ready : is_ready edges (order_of puts) p.task ≡ true
    pub start : p.start ≡ start_at edges cost puts p.task p.thread

  pub chosen : (p : Put) → first_of tail None (choices tasks threads edges cost puts) ≡ Some p → IsChosen p
  chosen p is =
      let fit : fits tasks threads edges cost tail (order_of puts) p ≡ true = subst (λ (o : Option Put). PassesIf (fits tasks threads edges cost tail (order_of puts)) o) is (chosen_passes (fits tasks threads edges cost tail (order_of puts)) tail None (choices tasks threads edges cost puts) record {} (choices_fit tasks threads edges cost tail puts)) in
      let so : starts_so edges cost puts p ≡ true = subst (λ (o : Option Put). PassesIf (starts_so edges cost puts) o) is (chosen_passes (starts_so edges cost puts) tail None (choices tasks threads edges cost puts) record {} (all_start (filter (is_ready edges (order_of puts)) (range_with_len 0 tasks)))) in
      let parts = and_parts (nat_lt p.task tasks && is_ready edges (order_of puts) p.task) (nat_lt p.thread threads) fit in
      let first = and_parts (nat_lt p.task tasks) (is_ready edges (order_of puts) p.task) parts.0 in
      record {
        task = ltb-true p.task tasks first.0;
        thread = ltb-true p.thread threads parts.1;
        ready = first.1;
        start = eqb-true p.start (start_at edges cost puts p.task p.thread) so;
      }

  pub packing_more : (p : Put) → IsChosen p → IsPacking tasks threads edges puts → IsPacking tasks threads edges (puts ++ p ∷ [])
  packing_more p it so_far = record {
    in_order = subst (λ (xs : List ℕ). ordered edges [] xs ≡ true) (sym (order_pushed puts p)) (ordered_push edges [] (order_of puts) p.task so_far.in_order it.ready);
    below = subst (λ (xs : List ℕ). all_below tasks xs ≡ true) (sym (order_pushed puts p)) (below_pushed tasks (order_of puts) p.task so_far.below (lt-ltb p.task tasks it.task));
    on_threads = subst (λ (xs : List ℕ). all_below threads xs ≡ true) (sym (threads_pushed puts p)) (below_pushed threads (map (λ (p : Put). p.thread) puts) p.thread so_far.on_threads (lt-ltb p.thread threads it.thread));
  }

  load_more : (p : Put) → load cost (puts ++ p ∷ []) ≡ load cost puts + cost p.task
  load_more p = ap (cost_of_all cost) (order_pushed puts p) ∙ cost_push cost (order_of puts) p.task

  pub end_more : (p : Put) → IsChosen p → AllEnd cost (load cost puts + load cost puts) puts → AllEnd cost (load cost (puts ++ p ∷ []) + load cost (puts ++ p ∷ [])) (puts ++ p ∷ [])
  end_more p it all =
      let more = load_more p in
      let start = it.start in
      let low = starts_low edges cost puts p.task p.thread (load cost puts + load cost puts) all in
      all_end_push cost (load cost (puts ++ p ∷ []) + load cost (puts ++ p ∷ [])) puts p
      (all_end_later cost (load cost puts + load cost puts) (load cost (puts ++ p ∷ []) + load cost (puts ++ p ∷ [])) puts (omega arith) all) (omega arith)

  -- so its times fit
  pub fits_64 : (p : Put) → IsChosen p → IsPacking tasks threads edges puts → AllEnd cost (load cost puts + load cost puts) puts → cost_of_all cost (range_with_len 0 tasks) < 2 ^ 63 → p.start + cost p.task + cost p.task < 2 ^ 64
  fits_64 p it so_far all total =
      let parts = and_parts (not (is_among p.task (order_of puts))) (list_all (λ (e : Edge). not (e.to == p.task) || is_among e.from (order_of puts)) edges) it.ready in
      let most = costs_no_more cost tasks (p.task ∷ order_of puts) (and_from (nat_lt p.task tasks) (all_below tasks (order_of puts)) (lt-ltb p.task tasks it.task) so_far.below)
      (and_from (not (is_among p.task (order_of puts))) (is_distinct (order_of puts)) parts.0 (ordered_distinct edges [] (order_of puts) so_far.in_order)) in
      let start = it.start in
      let low = starts_low edges cost puts p.task p.thread (load cost puts + load cost puts) all in
      omega arith

-- ---- a turn

pub turn_ends : (turns tasks threads : ℕ) (edges : List Edge) (cost tail : ℕ → ℕ) (puts : List Put) → first_of tail None (choices tasks threads edges cost puts) ≡ None → pack_turns turns tasks threads edges cost tail puts ≡ puts
turn_ends zero tasks threads edges cost tail puts none = refl
turn_ends (suc turns) tasks threads edges cost tail puts none = ap (λ (o : Option Put). put_next puts o (pack_turns turns tasks threads edges cost tail)) none

pub turn_goes : (left turns tasks threads : ℕ) (edges : List Edge) (cost tail : ℕ → ℕ) (puts : List Put) (p : Put) → left ≡ suc turns → first_of tail None (choices tasks threads edges cost puts) ≡ Some p
    → pack_turns turns tasks threads edges cost tail (puts ++ p ∷ []) ≡ pack_turns left tasks threads edges cost tail puts
turn_goes left turns tasks threads edges cost tail puts p is next =
    sym (ap (λ (o : Option Put). put_next puts o (pack_turns turns tasks threads edges cost tail)) next) ∙ ap (λ (k : ℕ). pack_turns k tasks threads edges cost tail puts) (sym is)
