-- Lines, from the front.
use Rattle.std.proofs.Common.{◌≡◌, ℕ, ◌+◌, ◌-◌, ◌<◌, ◌≤◌, List, [], ◌∷◌, ◌++◌, length, take, drop, Bool, true, false, cond, refl, sym, ap, ◌∙◌, arith, suc}
use Rattle.std.specs.Prelude.{take_while, not, ◌==◌, ◌&&◌}
use Rattle.std.specs.List.{prefix_len}
use Rattle.std.proofs.lemmas.Bool.{eqb-true}
use Rattle.std.proofs.Common.{length-drop}
use Rattle.std.proofs.lemmas.List.Folds.{length-prefix_len}
use Rattle.stimulus.specs.StimulusText.{lines_of, without_returns, onto_first}
use Rattle.stimulus.proofs.Tails.{tail_is}
use Rattle.stimulus.specs.Cuts.{is_in_line, without_last_return, IsFirstLine}

-- the bytes before the first line feed, and the others
abbrev front : List ℕ → List ℕ
front [] = []
front (c ∷ cs) = cond (c == 10) [] (c ∷ front cs)

abbrev back : List ℕ → List ℕ
back [] = []
back (c ∷ cs) = cond (c == 10) (c ∷ cs) (back cs)

-- the lines of a text in two parts, of which the other begins at the first line feed
abbrev lines_from : List ℕ → List ℕ → List (List ℕ)
lines_from line [] = line ∷ []
lines_from line (c ∷ rest) = without_last_return line ∷ lines_of (without_returns rest)

onto_lines : (c d : ℕ) (line rest : List ℕ) → onto_first c (lines_from (d ∷ line) rest) ≡ lines_from (c ∷ d ∷ line) rest
onto_lines c d line [] = refl
onto_lines c d line (x ∷ rest) = refl

module _ (c d : ℕ) (ds : List ℕ) where
  -- the lines from d on, and with c before them
  abbrev from_d : Bool → List (List ℕ)
  from_d e = lines_from (cond e [] (d ∷ front ds)) (cond e (d ∷ ds) (back ds))

  abbrev from_c : Bool → List (List ℕ)
  from_c e = lines_from (c ∷ cond e [] (d ∷ front ds)) (cond e (d ∷ ds) (back ds))

  abbrev onto_c : Bool → List (List ℕ)
  onto_c b = cond b ([] ∷ lines_of (without_returns (d ∷ ds))) (onto_first c (lines_of (without_returns (d ∷ ds))))

  cut_before : (b r e : Bool) → (c == 10) ≡ b → (c == 13) ≡ r → (d == 10) ≡ e → lines_of (without_returns (d ∷ ds)) ≡ from_d (d == 10)
      → lines_of (cond (r && e) (without_returns (d ∷ ds)) (c ∷ without_returns (d ∷ ds)))
      ≡ lines_from (cond b [] (c ∷ cond e [] (d ∷ front ds))) (cond b (c ∷ d ∷ ds) (cond e (d ∷ ds) (back ds)))
  cut_before true true e is_b is_r is_e again =
      let ten : c ≡ 10 = eqb-true c 10 is_b in
      let thirteen : c ≡ 13 = eqb-true c 13 is_r in
      absurd (omega arith)
  cut_before true false e is_b is_r is_e again = ap onto_c is_b
  cut_before false true true is_b is_r is_e again = again ∙ ap from_d is_e ∙ ap (λ (r : Bool). cond r [] (c ∷ []) ∷ lines_of (without_returns ds)) (sym is_r)
  cut_before false true false is_b is_r is_e again = ap onto_c is_b ∙ ap (onto_first c) (again ∙ ap from_d is_e) ∙ onto_lines c d (front ds) (back ds)
  cut_before false false true is_b is_r is_e again =
      ap onto_c is_b ∙ ap (onto_first c) (again ∙ ap from_d is_e) ∙ ap (λ (r : Bool). cond r [] (c ∷ []) ∷ lines_of (without_returns ds)) (sym is_r)
  cut_before false false false is_b is_r is_e again = ap onto_c is_b ∙ ap (onto_first c) (again ∙ ap from_d is_e) ∙ onto_lines c d (front ds) (back ds)

lines_cut : (c : ℕ) (cs : List ℕ) → lines_of (without_returns (c ∷ cs)) ≡ lines_from (front (c ∷ cs)) (back (c ∷ cs))
lines_cut c [] = by_test (c == 10)
  where
    by_test : (b : Bool) → cond b ([] ∷ []) ((c ∷ []) ∷ []) ≡ lines_from (cond b [] (c ∷ [])) (cond b (c ∷ []) [])
    by_test true = refl
    by_test false = refl
lines_cut c (d ∷ ds) = cut_before c d ds (c == 10) (c == 13) (d == 10) refl refl refl (lines_cut d ds)

-- ---- the parts by their lengths

front_take : (bs : List ℕ) → front bs ≡ take (prefix_len is_in_line bs) bs
front_take [] = refl
front_take (c ∷ cs) = by_test (c == 10) (front_take cs)
  where
    by_test : (b : Bool) → front cs ≡ take (prefix_len is_in_line cs) cs → cond b [] (c ∷ front cs) ≡ take (cond (not b) (1 + prefix_len is_in_line cs) 0) (c ∷ cs)
    by_test true again = refl
    by_test false again =
        let one : suc (prefix_len is_in_line cs) ≡ 1 + prefix_len is_in_line cs = omega arith in
        ap (λ (l : List ℕ). c ∷ l) again ∙ ap (λ (k : ℕ). take k (c ∷ cs)) one

back_drop : (bs : List ℕ) → back bs ≡ drop (prefix_len is_in_line bs) bs
back_drop [] = refl
back_drop (c ∷ cs) = by_test (c == 10) (back_drop cs)
  where
    by_test : (b : Bool) → back cs ≡ drop (prefix_len is_in_line cs) cs → cond b (c ∷ cs) (back cs) ≡ drop (cond (not b) (1 + prefix_len is_in_line cs) 0) (c ∷ cs)
    by_test true again = refl
    by_test false again =
        let one : suc (prefix_len is_in_line cs) ≡ 1 + prefix_len is_in_line cs = omega arith in
        again ∙ ap (λ (k : ℕ). drop k (c ∷ cs)) one

-- ---- the cuts of the code

lines_whole : (text : List ℕ) → 0 < length text → lines_of (without_returns text) ≡ lines_from (front text) (back text)
lines_whole [] some = absurd (omega arith)
lines_whole (c ∷ cs) some = lines_cut c cs

rest_of : (after : List ℕ) → List ℕ
rest_of after = take (length after - 1) (drop 1 after)

rest_is : (c : ℕ) (rest : List ℕ) → rest_of (c ∷ rest) ≡ rest
unfolding rest_of
rest_is c rest = tail_is c rest

rest_shorter : (after : List ℕ) → 1 ≤ length after → length (rest_of after) < length after
rest_shorter [] h = absurd (omega arith)
rest_shorter (c ∷ rest) h = let e = ap length (rest_is c rest) in omega arith

ends_here : (line after : List ℕ) → length after < 1 → lines_from line after ≡ line ∷ lines_of (without_returns after)
ends_here line [] h = refl
ends_here line (c ∷ rest) h = absurd (omega arith)

goes_on : (line after : List ℕ) → 1 ≤ length after → lines_from line after ≡ without_last_return line ∷ lines_of (without_returns (rest_of after))
goes_on line [] h = absurd (omega arith)
goes_on line (c ∷ rest) h = ap (λ (l : List ℕ). without_last_return line ∷ lines_of (without_returns l)) (sym (rest_is c rest))

module _ (text line after : List ℕ) (n : ℕ) (some : 0 < length text) (size : n ≡ length (take_while is_in_line text)) (is_line : line ≡ take n text) (is_after : after ≡ drop n text) where
  long : n ≡ prefix_len is_in_line text
  long = size ∙ length-prefix_len is_in_line text

  lines_are : lines_of (without_returns text) ≡ lines_from line after
  lines_are =
      let is_front : front text ≡ line = front_take text ∙ ap (λ (k : ℕ). take k text) (sym long) ∙ sym is_line in
      let is_back : back text ≡ after = back_drop text ∙ ap (λ (k : ℕ). drop k text) (sym long) ∙ sym is_after in
      lines_whole text some ∙ (λ i. lines_from (is_front i) (is_back i))

  within : length after ≤ length text
  within = let e : length after ≡ length text - n = ap length is_after ∙ length-drop n text in omega arith

  pub last_line : length after < 1 → IsFirstLine text line after
  last_line none = record { lines = lines_are ∙ ends_here line after none; shorter = omega arith }

  pub inner_line : (kept : List ℕ) → kept ≡ without_last_return line → 1 ≤ length after → IsFirstLine text kept (take (length after - 1) (drop 1 after))
  unfolding rest_of
  inner_line kept is_kept one = record {
    lines = lines_are ∙ goes_on line after one ∙ ap (λ (l : List ℕ). l ∷ lines_of (without_returns (rest_of after))) (sym is_kept);
    shorter = let h : length (rest_of after) < length after = rest_shorter after one in let w = within in omega arith;
  }

-- ---- a carriage return at the end

pub trimmed : (line before : List ℕ) → line ≡ before ++ 13 ∷ [] → before ≡ without_last_return line
trimmed line before e = sym (ap without_last_return e ∙ drops before)
  where
    drops : (before : List ℕ) → without_last_return (before ++ 13 ∷ []) ≡ before
    drops [] = refl
    drops (c ∷ []) = refl
    drops (c ∷ d ∷ cs) = ap (λ (l : List ℕ). c ∷ l) (drops (d ∷ cs))

pub untrimmed : (line : List ℕ) → ((before : List ℕ) → line ≡ before ++ 13 ∷ [] → ⊥) → line ≡ without_last_return line
untrimmed [] h = refl
untrimmed (c ∷ []) h = by_test (c == 13) refl
  where
    by_test : (b : Bool) → (c == 13) ≡ b → c ∷ [] ≡ cond b [] (c ∷ [])
    by_test true is = absurd (h [] (ap (λ (n : ℕ). n ∷ []) (eqb-true c 13 is)))
    by_test false is = refl
untrimmed (c ∷ d ∷ cs) h = ap (λ (l : List ℕ). c ∷ l) (untrimmed (d ∷ cs) (λ before e. h (c ∷ before) (ap (λ (l : List ℕ). c ∷ l) e)))
