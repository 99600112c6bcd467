-- What a process reaches by its ranges are the words with a bit that it reads or writes.
use Rattle.std.proofs.Common.{◌≡◌, ℕ, zero, suc, ◌+◌, ◌-◌, ◌<◌, ◌≤◌, ◌⊎◌, Bool, true, false, ◌&&◌, ◌||◌, not, List, [], ◌∷◌, Option, Some, None, max, min, refl, sym, ◌∙◌, subst, arith, inl, inr}
use Rattle.std.specs.Prelude.{nat_lt, nat_le, ◌^◌}
use Rattle.std.specs.List.{list_any}
use Rattle.std.proofs.lemmas.Bool.{and_parts, and_from, cases_Bool, cases_lt, ltb-true, leb-true, le-leb, lt-ltb, or_cases, or_left, or_right}
use Rattle.rtl_ir.specs.declared.design.Port.{Port}
use Rattle.rtl_pieces.specs.declared.layout.Word.{Word}
use Rattle.rtl_pieces.specs.declared.range.BitRange.{BitRange}
use Rattle.rtl_pieces.specs.Line.{Line, inside, has, place_of}
use Rattle.plan_types.specs.Drivers.{bits_of_var, is_input}
use Rattle.plan_types.specs.Settle.{some_below}
use Rattle.plan_types.specs.Touches.{some_bit, plain_if, shadow_if}
use Rattle.model_build.specs.Reaching.{overlaps, reached, word_reached, plain_reached, shadow_reached}

-- ---- a bit that is reached

pub some_at : (passes : ℕ → Bool) (n k : ℕ) → k < n → passes k ≡ true → some_below passes n ≡ true
some_at passes zero k less is = absurd (omega arith)
some_at passes (suc n) k less is = by_order (λ before. some_at passes n k before is) (cases_lt k n)
  where
    by_order : (k < n → some_below passes n ≡ true) → (k < n) ⊎ (n ≤ k) → some_below passes (suc n) ≡ true
    by_order others (inl before) = or_right (passes n) (some_below passes n) (others before)
    by_order others (inr after) = let e : k ≡ n = omega (arith, less, after) in or_left (passes n) (some_below passes n) (subst (λ m. passes m ≡ true) e is)

reached_bit : (from to : ℕ) (ranges : List BitRange) → reached from to ranges ≡ true → (b : ℕ) × (from ≤ b) × (b < to) × (has b ranges ≡ true)
reached_bit from to [] is = absurd (let e : false ≡ true = is in cc)
reached_bit from to (r ∷ more) is = by_cases (λ rest. reached_bit from to more rest) (or_cases (overlaps from to r) (reached from to more) is)
  where
    by_cases : (reached from to more ≡ true → (b : ℕ) × (from ≤ b) × (b < to) × (has b more ≡ true)) → (overlaps from to r ≡ true) ⊎ (reached from to more ≡ true) → (b : ℕ) × (from ≤ b) × (b < to) × (has b (r ∷ more) ≡ true)
    by_cases others (inl e) =
        let less = ltb-true (max r.from from) (min r.to to) e in
        let b = max r.from from in
        let in_r : inside b r ≡ true = and_from (nat_le r.from b) (nat_lt b r.to) (le-leb r.from b (omega arith)) (lt-ltb b r.to (omega arith)) in
        (b, omega arith, omega arith, or_left (inside b r) (has b more) in_r)
    by_cases others (inr rest) = let found = others rest in (found.0, found.1, found.2, or_right (inside found.0 r) (has found.0 more) found.3)

reached_at : (from to b : ℕ) (ranges : List BitRange) → from ≤ b → b < to → has b ranges ≡ true → reached from to ranges ≡ true
reached_at from to b [] low high is = absurd (let e : false ≡ true = is in cc)
reached_at from to b (r ∷ more) low high is = by_cases (λ rest. reached_at from to b more low high rest) (or_cases (inside b r) (has b more) is)
  where
    by_cases : (has b more ≡ true → reached from to more ≡ true) → (inside b r ≡ true) ⊎ (has b more ≡ true) → reached from to (r ∷ more) ≡ true
    by_cases others (inl e) =
        let ends = and_parts (nat_le r.from b) (nat_lt b r.to) e in
        let above = leb-true r.from b ends.0 in
        let below = ltb-true b r.to ends.1 in
        or_left (overlaps from to r) (reached from to more) (lt-ltb (max r.from from) (min r.to to) (omega arith))
    by_cases others (inr rest) = or_right (overlaps from to r) (reached from to more) (others rest)

-- ---- words

module _ (line : Line) (ranges : List BitRange) (f : ℕ → Bool) (on : (b : ℕ) → has b ranges ≡ true → f b ≡ true) where
  word_bit : (word : Word) → word_reached line ranges word ≡ true → some_bit line f word ≡ true
  word_bit word is =
      let place = place_of line word.holds in
      let found = reached_bit place (min (place + word.len) (2 ^ 128 - 1)) ranges is in
      let low = found.1 in let high = found.2 in
      let here : place + (found.0 - place) ≡ found.0 = omega arith in
      some_at (λ k. f (place + k)) word.len (found.0 - place) (omega arith) (subst (λ b. f b ≡ true) (sym here) (on found.0 found.3))

  pub plain_on : (w : Option Word) → plain_reached line ranges w ≡ true → plain_if line f w ≡ true
  plain_on (Some word) is =
      let parts = and_parts (not word.shadow) (word_reached line ranges word) is in
      and_from (not word.shadow) (some_bit line f word) parts.0 (word_bit word parts.1)
  plain_on None is = is

  pub shadow_on : (w : Option Word) → shadow_reached line ranges w ≡ true → shadow_if line f w ≡ true
  shadow_on (Some word) is =
      let parts = and_parts word.shadow (word_reached line ranges word) is in
      and_from word.shadow (some_bit line f word) parts.0 (word_bit word parts.1)
  shadow_on None is = is

-- ---- inputs

or_none : (x y : Bool) → (x || y) ≡ false → (x ≡ false) × (y ≡ false)
or_none true y e = absurd (let f : true ≡ false = e in cc)
or_none false y e = (refl, e)

-- no bit of ranges that reach no input is one of an input
pub unreached : (line : Line) (ranges : List BitRange) (ports : List Port)
    → list_any (λ (port : Port). port.input && reached (bits_of_var line port.var).from (bits_of_var line port.var).to ranges) ports ≡ false
    → (b : ℕ) → has b ranges ≡ true → list_any (λ (port : Port). is_input line port b) ports ≡ false
unreached line ranges [] none b is = refl
unreached line ranges (port ∷ more) none b is =
    let parts = or_none (port.input && reached (bits_of_var line port.var).from (bits_of_var line port.var).to ranges) (list_any (λ (q : Port). q.input && reached (bits_of_var line q.var).from (bits_of_var line q.var).to ranges) more) none in
    both (is_input line port b) (list_any (λ (q : Port). is_input line q b) more) (one port.input parts.0) (unreached line ranges more parts.1 b is)
  where
    both : (x y : Bool) → x ≡ false → y ≡ false → (x || y) ≡ false
    both true y e f = absurd (let g : true ≡ false = e in cc)
    both false y e f = f

    one : (input : Bool) → (input && reached (bits_of_var line port.var).from (bits_of_var line port.var).to ranges) ≡ false → (input && inside b (bits_of_var line port.var)) ≡ false
    one false e = refl
    one true e = by_test (cases_Bool (inside b (bits_of_var line port.var)))
      where
        by_test : (inside b (bits_of_var line port.var) ≡ true) ⊎ (inside b (bits_of_var line port.var) ≡ false) → inside b (bits_of_var line port.var) ≡ false
        by_test (inr f) = f
        by_test (inl f) =
            let ends = and_parts (nat_le (bits_of_var line port.var).from b) (nat_lt b (bits_of_var line port.var).to) f in
            let low = leb-true (bits_of_var line port.var).from b ends.0 in
            let high = ltb-true b (bits_of_var line port.var).to ends.1 in
            let met = reached_at (bits_of_var line port.var).from (bits_of_var line port.var).to b ranges low high is in
            absurd (let g : false ≡ true = sym e ∙ met in cc)
