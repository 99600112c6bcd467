-- One group of all nodes, as the one task of a thread, is valid.
use Rattle.std.proofs.Common.{◌≡◌, ◌==◌, ℕ, zero, suc, ◌+◌, ◌<◌, ◌≤◌, true, false, ◌&&◌, ◌||◌, not, cond, nat_lt, nat_le, List, [], ◌∷◌, ◌++◌, slice_index_or, refl, sym, ap, subst, ◌∙◌, inl, inr, arith}
use Rattle.std.specs.List.{list_all, filter, range_with_len}
use Rattle.std.proofs.lemmas.Bool.{and_parts, ne_eqb, eq-eqb, le-ltb, lt-ltb, ltb-true, cases_lt}
use Rattle.plan_graph.specs.declared.node.Edge.{Edge}
use Rattle.plan_graph.specs.Graphs.{ends_within, is_among, HasNoCycle}
use Rattle.plan_graph.specs.GraphLaws.{rises}
use Rattle.plan_graph.specs.declared.task.Task.{Task}
use Rattle.plan_graph.specs.Groupings.{times, ExactlyOnce, ascends_from, through, is_across, group_from, group_edges, keeps}
use Rattle.plan_types.specs.Plans.{is_on, IsValid}
use Rattle.plan_types.specs.OneTask.{groups_of, first_tasks, numbers_of, lists_of}

-- ---- the numbers of a range

below_none : (n a k : ℕ) → k < a → times k (range_with_len a n) ≡ 0
below_none zero a k h = refl
below_none (suc n) a k h =
    let other : (a == k) ≡ false = ne_eqb a k (λ e. omega arith) in
    ap (λ b. cond b 1 0 + times k (range_with_len (a + 1) n)) other ∙ (let i = below_none n (a + 1) k (omega arith) in omega (arith, i))

past_none : (n a k : ℕ) → a + n ≤ k → times k (range_with_len a n) ≡ 0
past_none zero a k h = refl
past_none (suc n) a k h =
    let other : (a == k) ≡ false = ne_eqb a k (λ e. omega arith) in
    ap (λ b. cond b 1 0 + times k (range_with_len (a + 1) n)) other ∙ (let i = past_none n (a + 1) k (omega arith) in omega (arith, i))

within_one : (n a k : ℕ) → a ≤ k → k < a + n → times k (range_with_len a n) ≡ 1
within_one zero a k h l = absurd (omega arith)
within_one (suc n) a k h l = elim (cases_lt a k) [
  | inl more ↦ (
      let other : (a == k) ≡ false = ne_eqb a k (λ e. omega arith) in
      ap (λ b. cond b 1 0 + times k (range_with_len (a + 1) n)) other ∙ (let i = within_one n (a + 1) k (omega arith) (omega arith) in omega (arith, i))
      )
  | inr least ↦ (
      let here : (a == k) ≡ true = eq-eqb a k (omega arith) in
      ap (λ b. cond b 1 0 + times k (range_with_len (a + 1) n)) here ∙ (let i = below_none n (a + 1) k (omega arith) in omega (arith, i))
      )
]

append_none : (list : List ℕ) → list ++ [] ≡ list
append_none [] = refl
append_none (n ∷ more) = ap (λ rest. n ∷ rest) (append_none more)

pub range_once : (bound : ℕ) → ExactlyOnce bound (range_with_len 0 bound ∷ [])
range_once bound n = ap (times n) (append_none (range_with_len 0 bound)) ∙ elim (cases_lt n bound) [
  | inl lt ↦ within_one bound 0 n (omega arith) (omega arith) ∙ ap (λ b. cond b 1 0) (sym (lt-ltb n bound lt))
  | inr le ↦ past_none bound 0 n (omega arith) ∙ ap (λ b. cond b 1 0) (sym (le-ltb n bound le))
]

leb_true : (a b : ℕ) → a ≤ b → nat_le a b ≡ true
leb_true a b h = grind arith

range_ascends : (n least a : ℕ) → least ≤ a → ascends_from least (range_with_len a n) ≡ true
range_ascends zero least a h = refl
range_ascends (suc n) least a h = ap (λ b. b && ascends_from (suc a) (range_with_len (a + 1) n)) (leb_true least a h) ∙ range_ascends n (suc a) (a + 1) (omega arith)

range_has : (n a k : ℕ) → a ≤ k → k < a + n → is_among k (range_with_len a n) ≡ true
range_has zero a k h l = absurd (omega arith)
range_has (suc n) a k h l = elim (cases_lt a k) [
  | inl more ↦ ap (λ b. b || is_among k (range_with_len (a + 1) n)) (ne_eqb a k (λ e. omega arith)) ∙ range_has n (a + 1) k (omega arith) (omega arith)
  | inr least ↦ ap (λ b. b || is_among k (range_with_len (a + 1) n)) (eq-eqb a k (omega arith))
]

-- ---- no edge leads out of the one group

stays : (n : ℕ) (e : Edge) → ends_within n e ≡ true → is_across (through (group_from 0 (range_with_len 0 n ∷ [])) e) ≡ false
stays n e within =
    let ends = and_parts (nat_lt e.from n) (nat_lt e.to n) within in
    let from = range_has n 0 e.from (omega arith) (let h = ltb-true e.from n ends.0 in omega arith) in
    let to = range_has n 0 e.to (omega arith) (let h = ltb-true e.to n ends.1 in omega arith) in
    ap (λ b. not (cond b 0 1 == cond (is_among e.to (range_with_len 0 n)) 0 1)) from ∙ ap (λ b. not (0 == cond b 0 1)) to

pub none_leaves : (n : ℕ) (edges : List Edge) → list_all (ends_within n) edges ≡ true → group_edges (range_with_len 0 n ∷ []) edges ≡ []
none_leaves n [] all = refl
none_leaves n (e ∷ edges) all =
    let parts = and_parts (ends_within n e) (list_all (ends_within n) edges) all in
    let groups : List (List ℕ) = range_with_len 0 n ∷ [] in
    ap (λ b. cond b (through (group_from 0 groups) e ∷ group_edges groups edges) (group_edges groups edges)) (stays n e parts.0) ∙ none_leaves n edges parts.1

pub no_edge_no_cycle : HasNoCycle []
no_edge_no_cycle j [] path = refl
no_edge_no_cycle j (i ∷ back) path = absurd (let e : false ≡ true = path in cc)

no_ends : (edges : List Edge) → list_all (ends_within 0) edges ≡ true → edges ≡ []
no_ends [] all = refl
no_ends (e ∷ edges) all =
    let parts = and_parts (ends_within 0 e) (list_all (ends_within 0) edges) all in
    let ends = and_parts (nat_lt e.from 0) (nat_lt e.to 0) parts.0 in
    absurd (let h = ltb-true e.from 0 ends.0 in omega arith)

one_thread : (k : ℕ) → slice_index_or ((0 ∷ []) ∷ []) k [] ≡ filter (is_on (first_tasks 1) k) (0 ∷ [])
one_thread zero = refl
one_thread (suc k) = ap (λ b. cond b (0 ∷ []) []) (sym (ne_eqb 0 (suc k) (λ e. omega arith)))

no_thread : (k : ℕ) → slice_index_or ([] ∷ []) k [] ≡ filter (is_on [] k) []
no_thread zero = refl
no_thread (suc k) = refl

-- ---- the plan

none_valid : (edges : List Edge) → edges ≡ [] → IsValid 0 edges [] [] ([] ∷ []) []
none_valid edges none = record {
  rising = ap (list_all rises) none;
  grouped = range_once 0;
  serial = refl;
  acyclic = (let same : group_edges [] edges ≡ [] = ap (group_edges []) none in subst HasNoCycle (sym same) no_edge_no_cycle);
  tasked = refl;
  placed = range_once 0;
  upstream = ap (λ es. list_all (keeps []) (group_edges [] es)) none;
  threaded = range_once 0;
  follows = no_thread;
}

pub whole_valid : (n : ℕ) (edges : List Edge) → list_all (ends_within n) edges ≡ true → list_all rises edges ≡ true → IsValid n edges (groups_of n) (first_tasks n) (lists_of n) (numbers_of n)
whole_valid zero edges ends rising = none_valid edges (no_ends edges ends)
whole_valid (suc n) edges ends rising =
    let none = none_leaves (suc n) edges ends in
    record {
      rising = rising;
      grouped = range_once (suc n);
      serial = ap (λ b. b && true) (range_ascends (suc n) 0 0 (omega arith));
      acyclic = subst HasNoCycle (sym none) no_edge_no_cycle;
      tasked = refl;
      placed = range_once 1;
      upstream = ap (list_all (keeps (0 ∷ []))) none;
      threaded = range_once 1;
      follows = one_thread;
    }

-- ---- a range, from its end

pub range_more : (n a k : ℕ) → a + n ≡ k → range_with_len a (suc n) ≡ range_with_len a n ++ k ∷ []
range_more zero a k e = ap (λ (m : ℕ). m ∷ []) (omega arith)
range_more (suc n) a k e = ap (λ rest. a ∷ rest) (range_more n (a + 1) k (omega arith))

-- ---- a plan that has these parts

pub parts_valid : (n : ℕ) (edges : List Edge) (groups : List (List ℕ)) (tasks : List Task) (threads : List (List ℕ)) (order : List ℕ)
    → list_all (ends_within n) edges ≡ true → list_all rises edges ≡ true
    → groups ≡ groups_of n → tasks ≡ first_tasks n → threads ≡ lists_of n → order ≡ numbers_of n → IsValid n edges groups tasks threads order
parts_valid n edges groups tasks threads order ends rising g t h o =
    subst (λ x. IsValid n edges x tasks threads order) (sym g)
    (subst (λ x. IsValid n edges (groups_of n) x threads order) (sym t)
    (subst (λ x. IsValid n edges (groups_of n) (first_tasks n) x order) (sym h)
    (subst (λ x. IsValid n edges (groups_of n) (first_tasks n) (lists_of n) x) (sym o) (whole_valid n edges ends rising))))
