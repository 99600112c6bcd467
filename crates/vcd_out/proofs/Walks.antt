-- The walk over scopes gives their lines.
use Rattle.std.proofs.Common.{◌≡◌, ℕ, zero, suc, ◌+◌, ◌<◌, ◌≤◌, List, [], ◌∷◌, ◌++◌, map, length, get_or, drop, Option, Some, None, Bool, true, false, cond, eqb, leb, refl, sym, ◌∙◌, ap, subst, arith, append_assoc, append-nil}
use Rattle.std.specs.List.{fold}
use Rattle.std.proofs.Math.Seq.{drop-cons}
use Rattle.std.proofs.lemmas.List.{length-append}
use Rattle.std.proofs.lemmas.List.Sums.{fold-append}
use Rattle.std.proofs.lemmas.Bool.{eqb-true, eq-eqb, and_parts, leb-true}
use Rattle.std.proofs.lemmas.Bool.Decides.{nat_tests}
use Rattle.vcd_out.specs.declared.layout.Line.{Line}
use Rattle.vcd_out.specs.declared.layout.Line.TheVariants.{Opens, Closes}
use Rattle.vcd_out.specs.Places.{IsLinked, places_from, place_from, are_first}
use Rattle.vcd_out.specs.Layout.{declared_line, scope_lines}
use Rattle.vcd_out.proofs.Places.{IsBelow, here, rest}

grouped : (e a b z : List Line) → (e ++ ((a ++ Closes ∷ []) ++ b)) ++ z ≡ e ++ (a ++ Closes ∷ (b ++ z))
grouped e a b z = simp append_assoc

module _ (owners outers : List ℕ) where
  -- the first lines of a scope
  abbrev pub entered : ℕ → List Line
  entered n = Opens n ∷ map declared_line (places_from 0 owners n)

  -- the lines of a scope and of those after it in the same one
  abbrev pub siblings : Option ℕ → List Line
  siblings None = []
  siblings (Some at) = scope_lines owners at (drop at outers) (get_or outers at 0)

  -- the lines of a scope, where it stands in the one that is asked for
  abbrev lines_if : ℕ → List ℕ → Bool → List Line
  lines_if n more b = cond b (entered n ++ (scope_lines owners (suc n) more (suc n) ++ Closes ∷ [])) []

  siblings_here : (n k : ℕ) (more : List ℕ) (outer : ℕ) (b : Bool) → b ≡ eqb k outer → drop n outers ≡ k ∷ more
      → siblings (place_from (suc n) more outer) ≡ scope_lines owners (suc n) more outer
      → siblings (cond b (Some n) (place_from (suc n) more outer)) ≡ lines_if n more b ++ scope_lines owners (suc n) more outer
  siblings_here n k more outer true h e later =
      let same : k ≡ outer = eqb-true k outer (sym h) in
      ap (λ (l : List ℕ). scope_lines owners n l (get_or outers n 0)) e
      ∙ ap (λ (o : ℕ). scope_lines owners n (k ∷ more) o) (here n outers k more e ∙ same)
      ∙ ap (λ (c : Bool). lines_if n more c ++ scope_lines owners (suc n) more outer) (sym h)
  siblings_here n k more outer false h e later = later

  -- from the first scope on they are all
  pub siblings_of_first : (n : ℕ) (left : List ℕ) (outer : ℕ) → drop n outers ≡ left → siblings (place_from n left outer) ≡ scope_lines owners n left outer
  siblings_of_first n [] outer e = refl
  siblings_of_first n (k ∷ more) outer e = siblings_here n k more outer (eqb k outer) refl e (siblings_of_first (suc n) more outer (rest n outers k more e))

  -- what stands in a scope stands after it
  pub stands_after : (n : ℕ) (left : List ℕ) (s j : ℕ) → are_first n left ≡ true → n + j ≡ suc s
      → scope_lines owners n left (suc s) ≡ scope_lines owners (suc s) (drop j left) (suc s)
  stands_after n left s zero first e = ap (λ (m : ℕ). scope_lines owners m left (suc s)) (let is : n ≡ suc s = omega arith in is)
  stands_after n [] s (suc j) first e = refl
  stands_after n (k ∷ more) s (suc j) first e =
      let parts = and_parts (leb k n) (are_first (suc n) more) first in
      let low : k ≤ n = leb-true k n parts.0 in
      let other : eqb k (suc s) ≡ false = grind (arith, nat_tests) in
      ap (λ (c : Bool). lines_if n more c ++ scope_lines owners (suc n) more (suc s)) other
      ∙ stands_after (suc n) more s j parts.1 (omega arith)

  -- ---- a walk, by the links of the scopes

  module _ (first next : List (Option ℕ)) where
    -- what is still to come of the scopes that have begun
    abbrev pub closing : List ℕ → List Line
    closing begun = fold (λ after s. Closes ∷ (siblings (get_or next s None) ++ after)) [] begun

    abbrev pub to_come : Option ℕ → List ℕ → List Line
    to_come at begun = siblings at ++ closing begun

    pub closing-push : (begun : List ℕ) (s : ℕ) → closing (begun ++ s ∷ []) ≡ Closes ∷ to_come (get_or next s None) begun
    closing-push begun s = fold-append (λ after t. Closes ∷ (siblings (get_or next t None) ++ after)) [] begun (s ∷ [])

    pub opened : IsLinked outers first next → length first ≡ length outers + 1 → are_first 0 outers ≡ true → (s : ℕ) → s < length outers
        → siblings (Some s) ≡ entered s ++ ((siblings (get_or first (suc s) None) ++ Closes ∷ []) ++ siblings (get_or next s None))
    opened l groups firsts s h =
        let o : ℕ = get_or outers s 0 in
        let more : List ℕ = drop (suc s) outers in
        let cut : drop s outers ≡ o ∷ more = drop-cons outers s 0 h in
        let same : eqb o o ≡ true = eq-eqb o o refl in
        let inner : siblings (get_or first (suc s) None) ≡ scope_lines owners (suc s) more (suc s) =
        ap siblings (l.first_is (suc s) (omega arith)) ∙ siblings_of_first 0 outers (suc s) refl ∙ stands_after 0 outers s (suc s) firsts (omega arith) in
        let later : siblings (get_or next s None) ≡ scope_lines owners (suc s) more o =
        ap siblings (l.next_is s h) ∙ siblings_of_first (suc s) more o refl in
        ap (λ (left : List ℕ). scope_lines owners s left o) cut
        ∙ ap (λ (c : Bool). lines_if s more c ++ scope_lines owners (suc s) more o) same
        ∙ append_assoc (entered s) (scope_lines owners (suc s) more (suc s) ++ Closes ∷ []) (scope_lines owners (suc s) more o)
        ∙ ap (λ (x : List Line). entered s ++ ((x ++ Closes ∷ []) ++ scope_lines owners (suc s) more o)) (sym inner)
        ∙ ap (λ (x : List Line). entered s ++ ((siblings (get_or first (suc s) None) ++ Closes ∷ []) ++ x)) (sym later)

    -- a scope begins
    pub comes_in : IsLinked outers first next → length first ≡ length outers + 1 → are_first 0 outers ≡ true → (s : ℕ) (begun : List ℕ) → s < length outers
        → to_come (Some s) begun ≡ entered s ++ to_come (get_or first (suc s) None) (begun ++ s ∷ [])
    comes_in l groups firsts s begun h =
        let a : List Line = siblings (get_or first (suc s) None) in
        let b : List Line = siblings (get_or next s None) in
        ap (λ (x : List Line). x ++ closing begun) (opened l groups firsts s h)
        ∙ grouped (entered s) a b (closing begun)
        ∙ ap (λ (x : List Line). entered s ++ (a ++ x)) (sym (closing-push begun s))

    pub length-entered : (s : ℕ) (more : List Line) → length more < length (entered s ++ more)
    length-entered s more = omega (arith, length-append (entered s) more)

    -- the innermost scope ends
    pub goes_out : (s : ℕ) (begun before : List ℕ) → begun ≡ before ++ s ∷ [] → to_come None begun ≡ Closes ∷ to_come (get_or next s None) before
    goes_out s begun before e = ap closing e ∙ closing-push before s

    -- what was written and what is to come, one step on
    pub written_in : IsLinked outers first next → length first ≡ length outers + 1 → are_first 0 outers ≡ true → (lines whole : List Line) (s : ℕ) (begun : List ℕ) → s < length outers
        → lines ++ to_come (Some s) begun ≡ whole → (lines ++ entered s) ++ to_come (get_or first (suc s) None) (begun ++ s ∷ []) ≡ whole
    written_in l groups firsts lines whole s begun h e =
        append_assoc lines (entered s) (to_come (get_or first (suc s) None) (begun ++ s ∷ []))
        ∙ ap (λ (x : List Line). lines ++ x) (sym (comes_in l groups firsts s begun h))
        ∙ e

    pub written_out : (lines whole : List Line) (s : ℕ) (begun before : List ℕ) → begun ≡ before ++ s ∷ []
        → lines ++ to_come None begun ≡ whole → (lines ++ Closes ∷ []) ++ to_come (get_or next s None) before ≡ whole
    written_out lines whole s begun before is e =
        append_assoc lines (Closes ∷ []) (to_come (get_or next s None) before)
        ∙ ap (λ (x : List Line). lines ++ x) (sym (goes_out s begun before is))
        ∙ e

    -- ---- the loop

    pub walk_starts : IsLinked outers first next → length first ≡ length outers + 1 → (lines : List Line) (at : Option ℕ) (begun : List ℕ) → lines ≡ [] → at ≡ get_or first 0 None → begun ≡ []
        → lines ++ to_come at begun ≡ scope_lines owners 0 outers 0
    walk_starts l groups lines at begun no_lines is_at none_begun =
        (λ i. no_lines i ++ to_come (is_at i) (none_begun i))
        ∙ append-nil (siblings (get_or first 0 None))
        ∙ ap siblings (l.first_is 0 (omega arith))
        ∙ siblings_of_first 0 outers 0 refl

    module _ (l : IsLinked outers first next) (groups : length first ≡ length outers + 1) (firsts : are_first 0 outers ≡ true)
        (s : ℕ) (at at' : Option ℕ) (begun begun' : List ℕ) (is_scope : at ≡ Some s) (known : IsBelow (length outers) at) (is_begun : begun' ≡ begun ++ s ∷ []) (is_next : at' ≡ get_or first (s + 1) None) where
      below : s < length outers
      below = subst (IsBelow (length outers)) is_scope known

      coming : to_come at' begun' ≡ to_come (get_or first (suc s) None) (begun ++ s ∷ [])
      coming = let one : s + 1 ≡ suc s = omega arith in (λ i. to_come ((is_next ∙ ap (λ (n : ℕ). get_or first n None) one) i) (is_begun i))

      pub steps_in_less : length (to_come at' begun') < length (to_come at begun)
      steps_in_less =
          let whole = ap length (ap (λ (a : Option ℕ). to_come a begun) is_scope ∙ comes_in l groups firsts s begun below) in
          let left = ap length coming in
          let less = length-entered s (to_come (get_or first (suc s) None) (begun ++ s ∷ [])) in
          omega arith

      pub steps_in : (lines lines' whole : List Line) → lines' ≡ lines ++ entered s → lines ++ to_come at begun ≡ whole → lines' ++ to_come at' begun' ≡ whole
      steps_in lines lines' whole is_lines e =
          (λ i. is_lines i ++ coming i)
          ∙ written_in l groups firsts lines whole s begun below (ap (λ (a : Option ℕ). lines ++ to_come a begun) (sym is_scope) ∙ e)

    pub steps_out : (lines lines' whole : List Line) (s : ℕ) (at at' : Option ℕ) (begun before : List ℕ) → at ≡ None → begun ≡ before ++ s ∷ [] → lines' ≡ lines ++ Closes ∷ [] → at' ≡ get_or next s None
        → lines ++ to_come at begun ≡ whole → lines' ++ to_come at' before ≡ whole
    steps_out lines lines' whole s at at' begun before is_none is_begun is_lines is_next e =
        (λ i. is_lines i ++ to_come (is_next i) before)
        ∙ written_out lines whole s begun before is_begun (ap (λ (a : Option ℕ). lines ++ to_come a begun) (sym is_none) ∙ e)
