-- The edges as the code lists them: node by node, and from each node along the later ones.
use Rattle.std.proofs.Common.{◌≡◌, ◌+◌, ◌-◌, ◌<◌, ◌≤◌, ℕ, zero, suc, List, [], ◌∷◌, ◌++◌, length, map, append-nil, append_assoc, length-append, Bool, true, false, not, cond, ◌&&◌, ◌||◌, refl, sym, ap, ◌∙◌, arith}
use Rattle.std.specs.List.{list_any, filter, range_with_len}
use Rattle.plan_graph.specs.declared.node.Edge.{Edge}
use Rattle.plan_graph.specs.ListLaws.{range_more, filter_push}
use Rattle.logic_graph.specs.declared.ranges.Touched.{Touched}
use Rattle.logic_graph.specs.Reading.{edge_to}
use Rattle.hazard_edges.specs.Hazards.{nodes_share, call, both_call, none_between, is_hazard, hazards_from, hazards_of_all, hazards}

-- ---- ranges, number by number

pub range_split : (n m a : ℕ) → range_with_len a (n + m) ≡ range_with_len a n ++ range_with_len (a + n) m
range_split zero m a = (λ i. range_with_len (here i) (there i))
  where
    here : a ≡ a + zero
    here = omega arith

    there : zero + m ≡ m
    there = omega arith
range_split (suc n) m a = ap (range_with_len a) more ∙ ap (λ (ks : List ℕ). a ∷ ks) (range_split n m (a + 1) ∙ ap (λ (k : ℕ). range_with_len (a + 1) n ++ range_with_len k m) place)
  where
    more : suc n + m ≡ suc (n + m)
    more = omega arith

    place : (a + 1) + n ≡ a + suc n
    place = omega arith

map_both : (f : ℕ → Edge) (xs ys : List ℕ) → map f (xs ++ ys) ≡ map f xs ++ map f ys
map_both f [] ys = refl
map_both f (x ∷ xs) ys = ap (λ (es : List Edge). f x ∷ es) (map_both f xs ys)

any_push : (p : ℕ → Bool) (xs : List ℕ) (k : ℕ) → list_any p (xs ++ k ∷ []) ≡ (list_any p xs || p k)
any_push p [] k = or_none (p k)
  where
    or_none : (b : Bool) → (b || false) ≡ b
    or_none true = refl
    or_none false = refl
any_push p (x ∷ xs) k = ap (λ (b : Bool). p x || b) (any_push p xs k) ∙ grouped (p x)
  where
    grouped : (b : Bool) → (b || (list_any p xs || p k)) ≡ ((b || list_any p xs) || p k)
    grouped true = refl
    grouped false = refl

-- ---- from one node

module _ (touched : List Touched) (calls : List Bool) where
  -- the edges from a node to those up to another
  abbrev pub edges_up_to : ℕ → ℕ → List Edge
  edges_up_to i j = map (edge_to i) (filter (is_hazard touched calls i) (range_with_len (suc i) (j - suc i)))

  -- whether the next node that calls follows this one in the chain of calls
  abbrev pub is_next : ℕ → ℕ → Bool
  is_next i j = call calls i && none_between calls i j

  next_range : (i j : ℕ) → suc i ≤ j → range_with_len (suc i) ((j + 1) - suc i) ≡ range_with_len (suc i) (j - suc i) ++ j ∷ []
  next_range i j low = ap (range_with_len (suc i)) more ∙ range_more (j - suc i) (suc i) ∙ ap (λ (k : ℕ). range_with_len (suc i) (j - suc i) ++ k ∷ []) place
    where
      more : (j + 1) - suc i ≡ suc (j - suc i)
      more = omega arith

      place : suc i + (j - suc i) ≡ j
      place = omega arith

  pub edges_more : (i j : ℕ) (b : Bool) → suc i ≤ j → is_hazard touched calls i j ≡ b → edges_up_to i (j + 1) ≡ edges_up_to i j ++ cond b (edge_to i j ∷ []) []
  edges_more i j b low is =
      ap (λ (ks : List ℕ). map (edge_to i) (filter (is_hazard touched calls i) ks)) (next_range i j low)
      ∙ ap (map (edge_to i)) (filter_push (is_hazard touched calls i) (range_with_len (suc i) (j - suc i)) j)
      ∙ map_both (edge_to i) (filter (is_hazard touched calls i) (range_with_len (suc i) (j - suc i))) (cond (is_hazard touched calls i j) (j ∷ []) [])
      ∙ ap (λ (c : Bool). edges_up_to i j ++ map (edge_to i) (cond c (j ∷ []) [])) is
      ∙ at b
    where
      at : (b : Bool) → edges_up_to i j ++ map (edge_to i) (cond b (j ∷ []) []) ≡ edges_up_to i j ++ cond b (edge_to i j ∷ []) []
      at true = refl
      at false = refl

  pub next_more : (i j : ℕ) → suc i ≤ j → is_next i (j + 1) ≡ (is_next i j && not (call calls j))
  next_more i j low =
      ap (λ (ks : List ℕ). call calls i && not (list_any (call calls) ks)) (next_range i j low)
      ∙ ap (λ (b : Bool). call calls i && not b) (any_push (call calls) (range_with_len (suc i) (j - suc i)) j)
      ∙ apart (call calls i) (list_any (call calls) (range_with_len (suc i) (j - suc i))) (call calls j)
    where
      apart : (a b c : Bool) → (a && not (b || c)) ≡ ((a && not b) && not c)
      apart true true c = refl
      apart true false c = refl
      apart false b c = refl

  pub at_first : (i : ℕ) → is_next i (i + 1) ≡ call calls i
  at_first i = ap (λ (n : ℕ). call calls i && not (list_any (call calls) (range_with_len (suc i) n))) none ∙ whole (call calls i)
    where
      none : (i + 1) - suc i ≡ 0
      none = omega arith

      whole : (b : Bool) → (b && true) ≡ b
      whole true = refl
      whole false = refl

  pub none_yet : (i : ℕ) → edges_up_to i (i + 1) ≡ []
  none_yet i = ap (λ (n : ℕ). map (edge_to i) (filter (is_hazard touched calls i) (range_with_len (suc i) n))) none
    where
      none : (i + 1) - suc i ≡ 0
      none = omega arith

  -- the test of the code is that of the definition
  pub tested : (i j : ℕ) (shared : Bool) → nodes_share touched i j ≡ shared → ((is_next i j && call calls j) || shared) ≡ is_hazard touched calls i j
  tested i j shared is = turned (call calls i) (call calls j) (none_between calls i j) shared ∙ ap (λ (b : Bool). b || (both_call calls i j && none_between calls i j)) (sym is)
    where
      turned : (a b c d : Bool) → (((a && c) && b) || d) ≡ (d || ((a && b) && c))
      turned true true true true = refl
      turned true true true false = refl
      turned true true false true = refl
      turned true true false false = refl
      turned true false true true = refl
      turned true false true false = refl
      turned true false false true = refl
      turned true false false false = refl
      turned false b c true = refl
      turned false b c false = refl

  -- ---- node by node

  of_all_both : (xs ys : List ℕ) → hazards_of_all touched calls (xs ++ ys) ≡ hazards_of_all touched calls xs ++ hazards_of_all touched calls ys
  of_all_both [] ys = refl
  of_all_both (x ∷ xs) ys = ap (λ (es : List Edge). hazards_from touched calls x ++ es) (of_all_both xs ys) ∙ sym (append_assoc (hazards_from touched calls x) (hazards_of_all touched calls xs) (hazards_of_all touched calls ys))

  pub one_node_more : (i : ℕ) → hazards_of_all touched calls (range_with_len 0 (i + 1)) ≡ hazards_of_all touched calls (range_with_len 0 i) ++ hazards_from touched calls i
  one_node_more i =
      ap (λ (n : ℕ). hazards_of_all touched calls (range_with_len 0 n)) more
      ∙ ap (hazards_of_all touched calls) (range_more i 0)
      ∙ of_all_both (range_with_len 0 i) ((0 + i) ∷ [])
      ∙ ap (λ (es : List Edge). hazards_of_all touched calls (range_with_len 0 i) ++ es) (append-nil (hazards_from touched calls (0 + i)) ∙ ap (hazards_from touched calls) place)
    where
      more : i + 1 ≡ suc i
      more = omega arith

      place : 0 + i ≡ i
      place = omega arith

  -- there are no fewer edges in the end
  pub no_fewer : (i : ℕ) → i ≤ length touched → length (hazards_of_all touched calls (range_with_len 0 i)) ≤ length (hazards touched calls)
  no_fewer i low =
      let whole = ap (λ (n : ℕ). hazards_of_all touched calls (range_with_len 0 n)) parts ∙ ap (hazards_of_all touched calls) (range_split i (length touched - i) 0) ∙ of_all_both (range_with_len 0 i) (range_with_len (0 + i) (length touched - i)) in
      let len = ap length whole ∙ length-append (hazards_of_all touched calls (range_with_len 0 i)) (hazards_of_all touched calls (range_with_len (0 + i) (length touched - i))) in
      omega arith
    where
      parts : length touched ≡ i + (length touched - i)
      parts = omega arith
