-- The groups as tasks: their costs together are those of the nodes, and their edges lead among them.
use Rattle.std.proofs.Common.{◌≡◌, ◌+◌, ◌-◌, ◌<◌, ◌≤◌, ◌==◌, ℕ, zero, suc, List, [], ◌∷◌, ◌++◌, length, map, fold, get_or, take, drop, Bool, true, false, not, cond, ◌&&◌, ◌||◌, nat_lt, refl, sym, ap, subst, ◌∙◌, inl, inr, ◌⊎◌, arith}
use Rattle.std.specs.List.{list_all, filter, range_with_len, concat, sum}
use Rattle.std.proofs.lemmas.Bool.{cases_lt, cases_eq, cases_Bool, eq-eqb, ne_eqb, and_parts, and_from, or_cases, ltb-true, lt-ltb, le-ltb, both_ways}
use Rattle.plan_graph.specs.declared.node.Edge.{Edge}
use Rattle.plan_graph.specs.Graphs.{ends_within, has_edge, is_among, cost_of_all, turned}
use Rattle.plan_graph.specs.GraphLaws.{edge_ends}
use Rattle.plan_graph.specs.Groupings.{times, ExactlyOnce, is_across, through, image, group_from, group_edges}
use Rattle.plan_graph.specs.ListLaws.{all_below, is_distinct, costs_no_more, once_distinct, times_below, none_more}
use Rattle.thread_pack.specs.Packing.{cost_of}

pub below_at : (bound : ℕ) (list : List ℕ) (i : ℕ) → all_below bound list ≡ true → i < length list → get_or list i 0 < bound
below_at bound [] i below within = absurd (omega arith)
below_at bound (x ∷ list) zero below within = ltb-true x bound (and_parts (nat_lt x bound) (all_below bound list) below).0
below_at bound (x ∷ list) (suc i) below within = below_at bound list i (and_parts (nat_lt x bound) (all_below bound list) below).1 (omega arith)

-- ---- what costs together

cost_both : (cost : ℕ → ℕ) (xs ys : List ℕ) → cost_of_all cost (xs ++ ys) ≡ cost_of_all cost xs + cost_of_all cost ys
cost_both cost [] ys = sym (none_more (cost_of_all cost ys))
cost_both cost (x ∷ xs) ys = let more = cost_both cost xs ys in omega arith

shifted : (cost : ℕ → ℕ) (n a : ℕ) → cost_of_all cost (range_with_len (suc a) n) ≡ cost_of_all (λ (k : ℕ). cost (suc k)) (range_with_len a n)
shifted cost zero a = refl
shifted cost (suc n) a = ap (λ (k : ℕ). cost (suc a) + cost_of_all cost (range_with_len k n)) next ∙ ap (λ (k : ℕ). cost (suc a) + k) (shifted cost n (a + 1))
  where
    next : suc a + 1 ≡ suc (a + 1)
    next = omega arith

one_on : (cost : ℕ → ℕ) (n : ℕ) → cost_of_all cost (range_with_len 0 (suc n)) ≡ cost 0 + cost_of_all (λ (k : ℕ). cost (suc k)) (range_with_len 0 n)
one_on cost n = ap (λ (k : ℕ). cost 0 + k) (shifted cost n 0)

sum_from : (costs : List ℕ) (a : ℕ) → fold ◌+◌ a costs ≡ a + fold ◌+◌ 0 costs
sum_from [] a = omega arith
sum_from (c ∷ costs) a = let one = sum_from costs (a + c) in let two = sum_from costs (0 + c) in omega arith

pub sum_is : (costs : List ℕ) → cost_of_all (λ (k : ℕ). get_or costs k 0) (range_with_len 0 (length costs)) ≡ sum costs
sum_is [] = refl
sum_is (c ∷ costs) = one_on (λ (k : ℕ). get_or (c ∷ costs) k 0) (length costs) ∙ ap (λ (k : ℕ). c + k) (sum_is costs) ∙ (let more = sum_from costs (0 + c) in omega arith)

of_groups : (cost : ℕ → ℕ) (groups : List (List ℕ)) → cost_of_all (λ (k : ℕ). cost_of_all cost (get_or groups k [])) (range_with_len 0 (length groups)) ≡ cost_of_all cost (concat groups)
of_groups cost [] = refl
of_groups cost (g ∷ groups) =
    one_on (λ (k : ℕ). cost_of_all cost (get_or (g ∷ groups) k [])) (length groups)
    ∙ ap (λ (k : ℕ). cost_of_all cost g + k) (of_groups cost groups)
    ∙ sym (cost_both cost g (concat groups))

no_less : (cost : ℕ → ℕ) (k n a : ℕ) → a ≤ k → k < a + n → cost k ≤ cost_of_all cost (range_with_len a n)
no_less cost k zero a low high = absurd (omega arith)
no_less cost k (suc n) a low high = by_order (λ past. no_less cost k n (a + 1) past (omega arith)) (cases_lt a k)
  where
    by_order : (a + 1 ≤ k → cost k ≤ cost_of_all cost (range_with_len (a + 1) n)) → (a < k) ⊎ (k ≤ a) → cost k ≤ cost a + cost_of_all cost (range_with_len (a + 1) n)
    by_order more (inl less) = let rest = more (omega arith) in omega arith
    by_order more (inr least) = let same : k ≡ a = omega arith in let here = ap cost same in omega arith

past_groups : (groups : List (List ℕ)) (k : ℕ) → length groups ≤ k → get_or groups k [] ≡ []
past_groups [] k past = refl
past_groups (g ∷ groups) zero past = absurd (omega arith)
past_groups (g ∷ groups) (suc k) past = past_groups groups k (omega arith)

module _ (costs : List ℕ) (groups : List (List ℕ)) (once : ExactlyOnce (length costs) groups) where
  below : all_below (length costs) (concat groups) ≡ true
  below = times_below (length costs) (concat groups) (λ n high. once n ∙ ap (λ (b : Bool). cond b 1 0) (le-ltb n (length costs) high))

  distinct : is_distinct (concat groups) ≡ true
  distinct = once_distinct (concat groups) (λ n. let is = once n in let most = at_most (nat_lt n (length costs)) in omega arith)
    where
      at_most : (b : Bool) → cond b 1 0 ≤ 1
      at_most true = omega arith
      at_most false = omega arith

  -- all groups cost no more than all nodes
  pub total_is : cost_of_all (cost_of costs groups) (range_with_len 0 (length groups)) ≤ sum costs
  total_is =
      let one = of_groups (λ (k : ℕ). get_or costs k 0) groups in
      let two = costs_no_more (λ (k : ℕ). get_or costs k 0) (length costs) (concat groups) below distinct in
      let three = sum_is costs in
      omega arith

  pub each_fits : (k : ℕ) → cost_of costs groups k ≤ sum costs
  each_fits k = by_order (cases_lt k (length groups))
    where
      by_order : (k < length groups) ⊎ (length groups ≤ k) → cost_of costs groups k ≤ sum costs
      by_order (inl less) = let all = total_is in let here = no_less (cost_of costs groups) k (length groups) 0 (omega arith) (omega arith) in omega arith
      by_order (inr past) = let none : cost_of costs groups k ≡ 0 = ap (cost_of_all (λ (n : ℕ). get_or costs n 0)) (past_groups groups k past) in omega arith

  parted : (gs : List (List ℕ)) → all_below (length costs) (concat gs) ≡ true → list_all (all_below (length costs)) gs ≡ true
  parted [] all = refl
  parted (g ∷ gs) all = let parts = split g all in and_from (all_below (length costs) g) (list_all (all_below (length costs)) gs) parts.0 (parted gs parts.1)
    where
      split : (xs : List ℕ) → all_below (length costs) (xs ++ concat gs) ≡ true → (all_below (length costs) xs ≡ true) × (all_below (length costs) (concat gs) ≡ true)
      split [] all = (refl, all)
      split (x ∷ xs) all =
          let parts = and_parts (nat_lt x (length costs)) (all_below (length costs) (xs ++ concat gs)) all in
          let rest = split xs parts.1 in
          (and_from (nat_lt x (length costs)) (all_below (length costs) xs) parts.0 rest.0, rest.1)

  pub each_within : list_all (all_below (length costs)) groups ≡ true
  each_within = parted groups below

  -- ---- the number of a node's group

  some_times : (n : ℕ) (xs : List ℕ) → is_among n xs ≡ false → times n xs ≡ 0
  some_times n [] away = refl
  some_times n (x ∷ xs) away = by_test (λ rest. some_times n xs rest) (x == n) refl
    where
      by_test : (is_among n xs ≡ false → times n xs ≡ 0) → (b : Bool) → (x == n) ≡ b → times n (x ∷ xs) ≡ 0
      by_test rest true e = absurd (both_ways ((x == n) || is_among n xs) away (ap (λ (b : Bool). b || is_among n xs) e))
      by_test rest false e = ap (λ (b : Bool). cond b 1 0 + times n xs) e ∙ none_more (times n xs) ∙ rest (ap (λ (b : Bool). b || is_among n xs) (sym e) ∙ away)

  times_parts : (n : ℕ) (xs ys : List ℕ) → times n (xs ++ ys) ≡ times n xs + times n ys
  times_parts n [] ys = sym (none_more (times n ys))
  times_parts n (x ∷ xs) ys = let more = times_parts n xs ys in omega arith

  numbered : (k n : ℕ) (gs : List (List ℕ)) → 0 < times n (concat gs) → group_from k gs n < k + length gs
  numbered k n [] some = absurd (omega arith)
  numbered k n (g ∷ gs) some = by_test (is_among n g) refl (λ less. numbered (suc k) n gs less)
    where
      by_test : (b : Bool) → is_among n g ≡ b → (0 < times n (concat gs) → group_from (suc k) gs n < suc k + length gs) → group_from k (g ∷ gs) n < k + suc (length gs)
      by_test true e more = let is = ap (λ (b : Bool). cond b k (group_from (suc k) gs n)) e in omega arith
      by_test false e more =
          let is = ap (λ (b : Bool). cond b k (group_from (suc k) gs n)) e in
          let none = some_times n g e in
          let parts = times_parts n g (concat gs) in
          let less = more (omega arith) in
          omega arith

  pub number_below : (n : ℕ) → n < length costs → group_from 0 groups n < length groups
  number_below n within =
      let one : times n (concat groups) ≡ 1 = once n ∙ ap (λ (b : Bool). cond b 1 0) (lt-ltb n (length costs) within) in
      let less = numbered 0 n groups (omega arith) in
      omega arith

  pub ends_are : (edges : List Edge) → list_all (ends_within (length costs)) edges ≡ true → list_all (ends_within (length groups)) (group_edges groups edges) ≡ true
  ends_are [] all = refl
  ends_are (e ∷ edges) all = by_test (is_across (through (group_from 0 groups) e)) (ends_are edges parts.1)
    where
      parts : (ends_within (length costs) e ≡ true) × (list_all (ends_within (length costs)) edges ≡ true)
      parts = and_parts (ends_within (length costs) e) (list_all (ends_within (length costs)) edges) all

      by_test : (b : Bool) → list_all (ends_within (length groups)) (group_edges groups edges) ≡ true
          → list_all (ends_within (length groups)) (cond b (through (group_from 0 groups) e ∷ group_edges groups edges) (group_edges groups edges)) ≡ true
      by_test true more =
          let ends = and_parts (nat_lt e.from (length costs)) (nat_lt e.to (length costs)) parts.0 in
          and_from (ends_within (length groups) (through (group_from 0 groups) e)) (list_all (ends_within (length groups)) (group_edges groups edges))
          (and_from (nat_lt (group_from 0 groups e.from) (length groups)) (nat_lt (group_from 0 groups e.to) (length groups))
          (lt-ltb (group_from 0 groups e.from) (length groups) (number_below e.from (ltb-true e.from (length costs) ends.0)))
          (lt-ltb (group_from 0 groups e.to) (length groups) (number_below e.to (ltb-true e.to (length costs) ends.1))))
          more
      by_test false more = more

-- ---- numbers from the last group to the first

pub last_numbers : (groups : List (List ℕ)) (n : ℕ) → group_from (length groups) (drop (length groups) groups) n ≡ length groups
last_numbers groups n = ap (λ (gs : List (List ℕ)). group_from (length groups) gs n) (none_left groups)
  where
    none_left : (gs : List (List ℕ)) → drop (length gs) gs ≡ []
    none_left [] = refl
    none_left (g ∷ gs) = none_left gs

pub number_more : (groups : List (List ℕ)) (k n : ℕ) → k < length groups → group_from k (drop k groups) n ≡ cond (is_among n (get_or groups k [])) k (group_from (suc k) (drop (suc k) groups) n)
number_more groups k n within = ap (λ (gs : List (List ℕ)). group_from k gs n) (opened groups k within)
  where
    opened : (gs : List (List ℕ)) (k : ℕ) → k < length gs → drop k gs ≡ get_or gs k [] ∷ drop (suc k) gs
    opened [] k within = absurd (omega arith)
    opened (g ∷ gs) zero within = refl
    opened (g ∷ gs) (suc k) within = opened gs k (omega arith)

-- ---- edges under names that agree

pub image_same : (f g : ℕ → ℕ) (nodes : ℕ) (edges : List Edge) → list_all (ends_within nodes) edges ≡ true → ((n : ℕ) → n < nodes → f n ≡ g n) → image f edges ≡ image g edges
image_same f g nodes [] all same = refl
image_same f g nodes (e ∷ edges) all same =
    let parts = and_parts (ends_within nodes e) (list_all (ends_within nodes) edges) all in
    let ends = and_parts (nat_lt e.from nodes) (nat_lt e.to nodes) parts.0 in
    let from = same e.from (ltb-true e.from nodes ends.0) in
    let to = same e.to (ltb-true e.to nodes ends.1) in
    (λ i. cond (not (from i == to i)) (record { from = from i; to = to i } ∷ image_same f g nodes edges parts.1 same i) (image_same f g nodes edges parts.1 same i))

pub turned_ends : (nodes : ℕ) (edges : List Edge) → list_all (ends_within nodes) edges ≡ true → list_all (ends_within nodes) (map turned edges) ≡ true
turned_ends nodes [] all = refl
turned_ends nodes (e ∷ edges) all =
    let parts = and_parts (ends_within nodes e) (list_all (ends_within nodes) edges) all in
    let ends = and_parts (nat_lt e.from nodes) (nat_lt e.to nodes) parts.0 in
    and_from (ends_within nodes (turned e)) (list_all (ends_within nodes) (map turned edges)) (and_from (nat_lt e.to nodes) (nat_lt e.from nodes) ends.1 ends.0) (turned_ends nodes edges parts.1)
