-- The longest spelling at the front is what the scan finds.
use Rattle.std.proofs.Common.{◌≡◌, ℕ, suc, ◌+◌, Bool, true, false, ◌&&◌, ◌||◌, ◌==◌, if◌then◌else◌, ◌⊎◌, inl, inr, [], ◌∷◌, take, Option, Some, None, refl, sym, ap, ◌∙◌, arith, true≢false}
use Rattle.std.specs.List.{list_all}
use Rattle.std.proofs.lemmas.Bool.{eqb-true}
use Rattle.sv_tree.specs.declared.token.TokenKind.{TokenKind}
use Rattle.sv_tree.specs.declared.token.TokenKind.TheVariants as kind
use Rattle.sv_lex.specs.declared.piece.Piece.TheVariants.{Spelled, Wrong}
use Rattle.sv_lex.specs.declared.piece.Defect.TheVariants as defect
use Rattle.sv_lex.specs.declared.piece.Class.TheVariants as class
use Rattle.sv_lex.specs.Spelling.{Bytes, spelling, is_empty, closes, is_letter, is_name, is_name_byte, after_sign, after_quote, is_base, is_sign, is_fill, is_based_byte, is_word, is_decimal_byte}
use Rattle.std.specs.Char.{is_ascii_digit}
use Rattle.sv_lex.specs.Cut.{front, opens_comment, is_zero}
use Rattle.sv_lex.specs.Scan.{run, closing, marked, based, quoted, word, text_by}
use Rattle.sv_lex.proofs.Greatest.{which}
use Rattle.sv_lex.proofs.Longest.{ends_after, never_after, never_here, ends_empty, ends_all, never_nil, front_at, front_none, Found, found_closing}

-- a byte that passes a test is no byte that fails it
pub apart : (p : ℕ → Bool) (b k : ℕ) → p b ≡ true → p k ≡ false → (b == k) ≡ false
apart p b k passes fails = by (b == k) refl
  where
    by : (c : Bool) → (b == k) ≡ c → c ≡ false
    by true e = absurd (true≢false (sym passes ∙ ap p (eqb-true b k e) ∙ fails))
    by false e = refl

pub no_comment : (b : ℕ) (t : Bytes) (c : Bool) → (b == 47) ≡ false → (opens_comment (b ∷ t) && c) ≡ false
no_comment b [] c e = refl
no_comment b (d ∷ t) c e = ap (λ k. (k && d == 42) && c) e

pub front_word : (b : ℕ) (t : Bytes) → is_letter b ≡ true → front (b ∷ t) ≡ word (b ∷ t)
front_word b t e =
    let rule : (s : Bytes) → spelling (b ∷ s) ≡ (if list_all is_name_byte s then Some (Some (if is_word (b ∷ s) then kind.Word else kind.Name)) else None) = λ s. rw e refl in
    let at = front_at b (list_all is_name_byte) (λ s. Some (if is_word (b ∷ s) then kind.Word else kind.Name)) rule t (run class.Named t) (ends_all is_name_byte t) (no_comment b t (is_zero (run class.Named t)) (apart is_letter b 47 e refl)) in
    let more : run class.Named t + 1 ≡ suc (run class.Named t) = omega arith in
    rw more at

pub front_decimal : (b : ℕ) (t : Bytes) → is_letter b ≡ false → is_ascii_digit b ≡ true → front (b ∷ t) ≡ Spelled kind.Decimal (run class.Decimal t + 1)
front_decimal b t e f =
    let rule : (s : Bytes) → spelling (b ∷ s) ≡ (if list_all is_decimal_byte s then Some (Some kind.Decimal) else None) = λ s. rw e (rw f refl) in
    let at = front_at b (list_all is_decimal_byte) (λ s. Some kind.Decimal) rule t (run class.Decimal t) (ends_all is_decimal_byte t) (no_comment b t (is_zero (run class.Decimal t)) (apart is_ascii_digit b 47 f refl)) in
    let more : run class.Decimal t + 1 ≡ suc (run class.Decimal t) = omega arith in
    rw more at

-- a name after one byte
module _ (b : ℕ) (k : TokenKind) (rule : (s : Bytes) → spelling (b ∷ s) ≡ (if is_name s then Some (Some k) else None)) (other : (b == 47) ≡ false) (quote : (b == 34) ≡ false) where
  pub front_marked : (t : Bytes) → front (b ∷ t) ≡ marked k t
  front_marked [] = front_none b is_name (λ s. Some k) rule [] (never_nil is_name refl) ∙ ap (λ c. Wrong (if c then defect.OpenString else defect.BadChar)) quote
  front_marked (c ∷ t) = by (which (is_letter c))
    where
      by : (is_letter c ≡ true) ⊎ (is_letter c ≡ false) → front (b ∷ c ∷ t) ≡ marked k (c ∷ t)
      by (inl e) =
          let inner : (s : Bytes) → is_name (c ∷ s) ≡ list_all is_name_byte s = λ s. ap (λ r. r && list_all is_name_byte s) e in
          let ends = ends_after (list_all is_name_byte) is_name c t inner (run class.Named t) (ends_all is_name_byte t) in
          let at = front_at b is_name (λ s. Some k) rule (c ∷ t) (suc (run class.Named t)) ends (no_comment b (c ∷ t) (is_zero (suc (run class.Named t))) other) in
          let more : run class.Named t + 2 ≡ suc (suc (run class.Named t)) = omega arith in
          rw e (rw more at)
      by (inr e) =
          let inner : (s : Bytes) → is_name (c ∷ s) ≡ false = λ s. ap (λ r. r && list_all is_name_byte s) e in
          rw e (front_none b is_name (λ s. Some k) rule (c ∷ t) (never_here is_name c t refl inner) ∙ ap (λ c. Wrong (if c then defect.OpenString else defect.BadChar)) quote)

-- the bytes after the quote of a number
numbered : Bytes → Bool
numbered s = is_fill s || after_quote s

pub front_text : (t : Bytes) → front (34 ∷ t) ≡ text_by (closing 1 0 t)
front_text t = by (closing 1 0 t) (found_closing t 1 0)
  where
    by : (o : Option ℕ) → Found (closes 0) t 1 o → front (34 ∷ t) ≡ text_by o
    by None h = front_none 34 (closes 0) (λ s. Some kind.Text) (λ s. refl) t h
    by (Some n) h =
        let more : n ≡ suc h.0 = omega (arith, h.1) in
        rw more (front_at 34 (closes 0) (λ s. Some kind.Text) (λ s. refl) t h.0 h.2 (no_comment 34 t (is_zero h.0) refl))

or_false : (c : Bool) → (c || false) ≡ c
or_false true = refl
or_false false = refl

number_kind : Bytes → Option TokenKind
number_kind s = Some (if is_fill s then kind.Fill else kind.Based)

number_rule : (s : Bytes) → spelling (39 ∷ s) ≡ (if numbered s then Some (number_kind s) else None)
unfolding numbered number_kind
number_rule s = by (is_fill s) (after_quote s)
  where
    by : (f a : Bool) → (if f then Some (Some kind.Fill) else (if a then Some (Some kind.Based) else None)) ≡ (if f || a then Some (Some (if f then kind.Fill else kind.Based)) else None)
    by true a = refl
    by false true = refl
    by false false = refl

front_fill : (c : ℕ) (t : Bytes) → ((s : Bytes) → numbered (c ∷ s) ≡ is_empty s) → is_fill (c ∷ []) ≡ true → front (39 ∷ c ∷ t) ≡ Spelled kind.Fill 2
unfolding numbered number_kind
front_fill c t inner fill =
    let at = front_at 39 numbered number_kind number_rule (c ∷ t) 1 (ends_after is_empty numbered c t inner 0 (ends_empty t)) refl in
    at ∙ ap (λ f. Spelled (if f then kind.Fill else kind.Based) 2) fill

-- the test of what follows a base
module _ (c : ℕ) (t : Bytes) (plain : (c == 48 || c == 49) ≡ false) where
  front_based : is_sign c ≡ false → front (39 ∷ c ∷ t) ≡ based 1 (c ∷ t)
  unfolding numbered number_kind
  front_based e = by (which (is_base c))
    where
      rule : (s : Bytes) → numbered (c ∷ s) ≡ (is_base c && list_all is_based_byte s)
      rule s = rw plain (rw e refl)

      by : (is_base c ≡ true) ⊎ (is_base c ≡ false) → front (39 ∷ c ∷ t) ≡ based 1 (c ∷ t)
      by (inl f) =
          let inner : (s : Bytes) → numbered (c ∷ s) ≡ list_all is_based_byte s = λ s. rule s ∙ ap (λ k. k && list_all is_based_byte s) f in
          let at = front_at 39 numbered number_kind number_rule (c ∷ t) (suc (run class.Based t)) (ends_after (list_all is_based_byte) numbered c t inner (run class.Based t) (ends_all is_based_byte t)) refl in
          let more : run class.Based t + 2 ≡ suc (suc (run class.Based t)) = omega arith in
          let kind_is : is_fill (c ∷ take (run class.Based t) t) ≡ false = ap (λ k. k && is_empty (take (run class.Based t) t)) plain in
          rw f (rw more (at ∙ ap (λ k. Spelled (if k then kind.Fill else kind.Based) (suc (suc (run class.Based t)))) kind_is))
      by (inr f) = rw f (front_none 39 numbered number_kind number_rule (c ∷ t) (never_here numbered c t refl (λ s. rule s ∙ ap (λ k. k && list_all is_based_byte s) f)))

  front_signed : is_sign c ≡ true → front (39 ∷ c ∷ t) ≡ based 2 t
  unfolding numbered number_kind
  front_signed e = by t
    where
      rule : (s : Bytes) → numbered (c ∷ s) ≡ after_sign s
      rule s = rw plain (rw e refl)

      by : (t : Bytes) → front (39 ∷ c ∷ t) ≡ based 2 t
      by [] = front_none 39 numbered number_kind number_rule (c ∷ []) (never_after after_sign numbered c [] rule refl (never_nil after_sign refl))
      by (d ∷ t) = on (which (is_base d))
        where
          on : (is_base d ≡ true) ⊎ (is_base d ≡ false) → front (39 ∷ c ∷ d ∷ t) ≡ based 2 (d ∷ t)
          on (inl f) =
              let inner : (s : Bytes) → after_sign (d ∷ s) ≡ list_all is_based_byte s = λ s. ap (λ k. k && list_all is_based_byte s) f in
              let ends = ends_after after_sign numbered c (d ∷ t) rule (suc (run class.Based t)) (ends_after (list_all is_based_byte) after_sign d t inner (run class.Based t) (ends_all is_based_byte t)) in
              let at = front_at 39 numbered number_kind number_rule (c ∷ d ∷ t) (suc (suc (run class.Based t))) ends refl in
              let more : run class.Based t + 3 ≡ suc (suc (suc (run class.Based t))) = omega arith in
              let kind_is : is_fill (c ∷ d ∷ take (run class.Based t) t) ≡ false = ap (λ k. k && false) plain in
              rw f (rw more (at ∙ ap (λ k. Spelled (if k then kind.Fill else kind.Based) (suc (suc (suc (run class.Based t))))) kind_is))
          on (inr f) =
              let inner : (s : Bytes) → after_sign (d ∷ s) ≡ false = λ s. ap (λ k. k && list_all is_based_byte s) f in
              rw f (front_none 39 numbered number_kind number_rule (c ∷ d ∷ t) (never_after after_sign numbered c (d ∷ t) rule refl (never_here after_sign d t refl inner)))

pub front_quoted : (t : Bytes) → front (39 ∷ t) ≡ quoted t
unfolding numbered number_kind
front_quoted [] = front_none 39 numbered number_kind number_rule [] (never_nil numbered refl)
front_quoted (c ∷ t) = by (which (c == 48)) (which (c == 49))
  where
    by : ((c == 48) ≡ true) ⊎ ((c == 48) ≡ false) → ((c == 49) ≡ true) ⊎ ((c == 49) ≡ false) → front (39 ∷ c ∷ t) ≡ quoted (c ∷ t)
    by (inl e) f = rw (eqb-true c 48 e) (front_fill 48 t (λ s. or_false (is_empty s)) refl)
    by (inr e) (inl f) = rw (eqb-true c 49 f) (front_fill 49 t (λ s. or_false (is_empty s)) refl)
    by (inr e) (inr f) =
        let plain : (c == 48 || c == 49) ≡ false = ap (λ k. k || c == 49) e ∙ f in
        signs plain (which (is_sign c))
      where
        signs : (c == 48 || c == 49) ≡ false → (is_sign c ≡ true) ⊎ (is_sign c ≡ false) → front (39 ∷ c ∷ t) ≡ quoted (c ∷ t)
        signs plain (inl g) = rw plain (rw g (front_signed c t plain g))
        signs plain (inr g) = rw plain (rw g (front_based c t plain g))
