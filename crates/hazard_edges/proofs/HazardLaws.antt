-- Nodes that conflict are joined by a path, and every edge leads to a later node.
use Rattle.std.proofs.Common.{◌≡◌, ◌+◌, ◌-◌, ◌<◌, ◌≤◌, ◌==◌, ℕ, zero, suc, List, [], ◌∷◌, ◌++◌, length, map, Bool, true, false, not, cond, ◌&&◌, ◌||◌, nat_lt, refl, sym, ap, subst, ◌∙◌, inl, inr, ◌⊎◌, arith}
use Rattle.std.specs.List.{list_any, list_all, filter, range_with_len}
use Rattle.std.proofs.lemmas.Bool.{cases_lt, cases_eq, cases_Bool, eq-eqb, eqb-true, ne_eqb, and_parts, and_from, or_cases, or_left, or_right, or_from, both_ways, lt-ltb, not_from_false, false_from_ne_true}
use Rattle.plan_graph.specs.declared.node.Edge.{Edge}
use Rattle.plan_graph.specs.Graphs.{ends_within, has_edge, joins, Leads}
use Rattle.plan_graph.specs.GraphLaws.{rises}
use Rattle.plan_graph.specs.PathLaws.{leads_edge, leads_first}
use Rattle.logic_graph.specs.declared.ranges.Touched.{Touched}
use Rattle.logic_graph.specs.Reading.{edge_to}
use Rattle.hazard_edges.specs.Hazards.{nodes_share, call, both_call, conflict, none_between, is_hazard, hazards_from, hazards_of_all, hazards}

-- ---- the edges of the definition

any_both : (p : Edge → Bool) (xs ys : List Edge) → list_any p (xs ++ ys) ≡ (list_any p xs || list_any p ys)
any_both p [] ys = refl
any_both p (x ∷ xs) ys = ap (λ (b : Bool). p x || b) (any_both p xs ys) ∙ joined (p x)
  where
    joined : (b : Bool) → (b || (list_any p xs || list_any p ys)) ≡ ((b || list_any p xs) || list_any p ys)
    joined true = refl
    joined false = refl

listed_here : (p : ℕ → Bool) (i j : ℕ) → p j ≡ true → (n a : ℕ) → a ≤ j → j < a + n → has_edge (map (edge_to i) (filter p (range_with_len a n))) i j ≡ true
listed_here p i j holds zero a low high = absurd (omega arith)
listed_here p i j holds (suc n) a low high = by_eq (λ past. listed_here p i j holds n (a + 1) past (omega arith)) (cases_lt a j)
  where
    rest : List ℕ
    rest = filter p (range_with_len (a + 1) n)

    at : (b : Bool) → has_edge (map (edge_to i) (filter p (range_with_len (a + 1) n))) i j ≡ true → has_edge (map (edge_to i) (cond b (a ∷ filter p (range_with_len (a + 1) n)) (filter p (range_with_len (a + 1) n)))) i j ≡ true
    at true more = or_right (joins i j (edge_to i a)) (has_edge (map (edge_to i) (filter p (range_with_len (a + 1) n))) i j) more
    at false more = more

    by_eq : (a + 1 ≤ j → has_edge (map (edge_to i) (filter p (range_with_len (a + 1) n))) i j ≡ true) → (a < j) ⊎ (j ≤ a) → has_edge (map (edge_to i) (filter p (range_with_len a (suc n)))) i j ≡ true
    by_eq others (inl less) = at (p a) (others (omega arith))
    by_eq others (inr more) =
        let same : a ≡ j = omega arith in
        ap (λ (b : Bool). has_edge (map (edge_to i) (cond b (a ∷ filter p (range_with_len (a + 1) n)) (filter p (range_with_len (a + 1) n)))) i j) (ap p same ∙ holds)
        ∙ or_left (joins i j (edge_to i a)) (has_edge (map (edge_to i) (filter p (range_with_len (a + 1) n))) i j) (and_from (i == i) (a == j) (eq-eqb i i refl) (eq-eqb a j same))

module _ (touched : List Touched) (calls : List Bool) where
  listed_among : (i j : ℕ) → has_edge (hazards_from touched calls i) i j ≡ true → (n a : ℕ) → a ≤ i → i < a + n → has_edge (hazards_of_all touched calls (range_with_len a n)) i j ≡ true
  listed_among i j here zero a low high = absurd (omega arith)
  listed_among i j here (suc n) a low high =
      any_both (joins i j) (hazards_from touched calls a) (hazards_of_all touched calls (range_with_len (a + 1) n))
      ∙ by_eq (λ past. listed_among i j here n (a + 1) past (omega arith)) (cases_lt a i)
    where
      by_eq : (a + 1 ≤ i → has_edge (hazards_of_all touched calls (range_with_len (a + 1) n)) i j ≡ true) → (a < i) ⊎ (i ≤ a)
          → (has_edge (hazards_from touched calls a) i j || has_edge (hazards_of_all touched calls (range_with_len (a + 1) n)) i j) ≡ true
      by_eq others (inl less) = or_right (has_edge (hazards_from touched calls a) i j) (has_edge (hazards_of_all touched calls (range_with_len (a + 1) n)) i j) (others (omega arith))
      by_eq others (inr more) =
          let same : i ≡ a = omega arith in
          or_left (has_edge (hazards_from touched calls a) i j) (has_edge (hazards_of_all touched calls (range_with_len (a + 1) n)) i j) (subst (λ (k : ℕ). has_edge (hazards_from touched calls k) i j ≡ true) same here)

  pub hazard_is_edge : (i j : ℕ) → i < j → j < length touched → is_hazard touched calls i j ≡ true → has_edge (hazards touched calls) i j ≡ true
  hazard_is_edge i j less within holds =
      listed_among i j (listed_here (is_hazard touched calls i) i j holds (length touched - suc i) (suc i) (omega arith) (omega arith)) (length touched) 0 (omega arith) (omega arith)

  -- ---- a chain of calls

  none_in : (n a : ℕ) → ((k : ℕ) → a ≤ k → k < a + n → call calls k ≡ false) → list_any (call calls) (range_with_len a n) ≡ false
  none_in zero a none = refl
  none_in (suc n) a none =
      or_from (call calls a) (list_any (call calls) (range_with_len (a + 1) n)) (none a (omega arith) (omega arith)) (none_in n (a + 1) (λ k low high. none k (omega arith) (omega arith)))

  next_call : (i j : ℕ) → i < j → j < length touched → call calls i ≡ true → call calls j ≡ true → ((k : ℕ) → i < k → k < j → call calls k ≡ false) → has_edge (hazards touched calls) i j ≡ true
  next_call i j less within at_i at_j none =
      hazard_is_edge i j less within
      (or_right (nodes_share touched i j) (both_call calls i j && none_between calls i j)
      (and_from (both_call calls i j) (none_between calls i j) (and_from (call calls i) (call calls j) at_i at_j)
      (not_from_false (list_any (call calls) (range_with_len (suc i) (j - suc i))) (none_in (j - suc i) (suc i) (λ k low high. none k (omega arith) (omega arith))))))

  -- no call from i on before k: the chain goes on from k
  hop : (room i k j : ℕ) → i < k → k + room ≡ j → j < length touched → call calls i ≡ true → call calls j ≡ true → ((m : ℕ) → i < m → m < k → call calls m ≡ false) → Leads (hazards touched calls) i j
  hop zero i k j less at within at_i at_j none = leads_edge (hazards touched calls) i j (next_call i j (omega arith) within at_i at_j (λ m low high. none m low (omega arith)))
  hop (suc room) i k j less at within at_i at_j none =
      by_call (λ e. hop room k (k + 1) j (omega arith) (omega arith) within e at_j (λ m low high. absurd (omega arith)))
      (λ e. hop room i (k + 1) j (omega arith) (omega arith) within at_i at_j (λ m low high. by_last m e low high (cases_eq m k)))
      (cases_Bool (call calls k))
    where
      by_last : (m : ℕ) → call calls k ≡ false → i < m → m < k + 1 → (m ≡ k) ⊎ (m ≡ k → ⊥) → call calls m ≡ false
      by_last m e low high (inl same) = ap (call calls) same ∙ e
      by_last m e low high (inr other) = none m low (omega (arith, other))

      by_call : (call calls k ≡ true → Leads (hazards touched calls) k j) → (call calls k ≡ false → Leads (hazards touched calls) i j) → (call calls k ≡ true) ⊎ (call calls k ≡ false) → Leads (hazards touched calls) i j
      by_call taken passed (inl e) = leads_first (hazards touched calls) i k j (next_call i k less (omega arith) at_i e none) (taken e)
      by_call taken passed (inr e) = passed e

  -- conflicting nodes are joined by a path
  pub conflict_has_path : (i j : ℕ) → i < j → j < length touched → conflict touched calls i j ≡ true → Leads (hazards touched calls) i j
  conflict_has_path i j less within conflicts = by_kind (or_cases (nodes_share touched i j) (both_call calls i j) conflicts)
    where
      by_kind : (nodes_share touched i j ≡ true) ⊎ (both_call calls i j ≡ true) → Leads (hazards touched calls) i j
      by_kind (inl shared) = leads_edge (hazards touched calls) i j (hazard_is_edge i j less within (or_left (nodes_share touched i j) (both_call calls i j && none_between calls i j) shared))
      by_kind (inr calling) =
          let parts = and_parts (call calls i) (call calls j) calling in
          hop (j - suc i) i (suc i) j (omega arith) (omega arith) within parts.0 parts.1 (λ m low high. absurd (omega arith))

  -- ---- every edge leads to a later node

  all_both : (p : Edge → Bool) (xs ys : List Edge) → list_all p xs ≡ true → list_all p ys ≡ true → list_all p (xs ++ ys) ≡ true
  all_both p [] ys some others = others
  all_both p (x ∷ xs) ys some others = let parts = and_parts (p x) (list_all p xs) some in and_from (p x) (list_all p (xs ++ ys)) parts.0 (all_both p xs ys parts.1 others)

  rise_from : (p : ℕ → Bool) (i n a : ℕ) → i < a → list_all rises (map (edge_to i) (filter p (range_with_len a n))) ≡ true
  rise_from p i zero a less = refl
  rise_from p i (suc n) a less = at (p a) (rise_from p i n (a + 1) (omega arith))
    where
      at : (b : Bool) → list_all rises (map (edge_to i) (filter p (range_with_len (a + 1) n))) ≡ true → list_all rises (map (edge_to i) (cond b (a ∷ filter p (range_with_len (a + 1) n)) (filter p (range_with_len (a + 1) n)))) ≡ true
      at true more = and_from (nat_lt i a) (list_all rises (map (edge_to i) (filter p (range_with_len (a + 1) n)))) (lt-ltb i a less) more
      at false more = more

  all_rise : (list : List ℕ) → list_all rises (hazards_of_all touched calls list) ≡ true
  all_rise [] = refl
  all_rise (i ∷ list) = all_both rises (hazards_from touched calls i) (hazards_of_all touched calls list) (rise_from (is_hazard touched calls i) i (length touched - suc i) (suc i) (omega arith)) (all_rise list)

  pub hazards_rise : list_all rises (hazards touched calls) ≡ true
  hazards_rise = all_rise (range_with_len 0 (length touched))

  -- ---- the ends of the edges are nodes

  within_from : (i n a : ℕ) → i < length touched → a + n ≤ length touched → (p : ℕ → Bool) → list_all (ends_within (length touched)) (map (edge_to i) (filter p (range_with_len a n))) ≡ true
  within_from i zero a less room p = refl
  within_from i (suc n) a less room p = at (p a) (within_from i n (a + 1) less (omega arith) p)
    where
      at : (b : Bool) → list_all (ends_within (length touched)) (map (edge_to i) (filter p (range_with_len (a + 1) n))) ≡ true → list_all (ends_within (length touched)) (map (edge_to i) (cond b (a ∷ filter p (range_with_len (a + 1) n)) (filter p (range_with_len (a + 1) n)))) ≡ true
      at true more = and_from (ends_within (length touched) (edge_to i a)) (list_all (ends_within (length touched)) (map (edge_to i) (filter p (range_with_len (a + 1) n)))) (and_from (nat_lt i (length touched)) (nat_lt a (length touched)) (lt-ltb i (length touched) less) (lt-ltb a (length touched) (omega arith))) more
      at false more = more

  within_all : (n a : ℕ) → a + n ≤ length touched → list_all (ends_within (length touched)) (hazards_of_all touched calls (range_with_len a n)) ≡ true
  within_all zero a room = refl
  within_all (suc n) a room = all_both (ends_within (length touched)) (hazards_from touched calls a) (hazards_of_all touched calls (range_with_len (a + 1) n)) (within_from a (length touched - suc a) (suc a) (omega arith) (omega arith) (is_hazard touched calls a)) (within_all n (a + 1) (omega arith))

  pub hazards_within : list_all (ends_within (length touched)) (hazards touched calls) ≡ true
  hazards_within = within_all (length touched) 0 (omega arith)
