-- The longest spelling at the front where it is a mark or a comment, and the whole.
use Rattle.std.proofs.Common.{◌≡◌, ◌≤◌, ◌<◌, ℕ, zero, suc, ◌+◌, Bool, true, false, ◌&&◌, ◌||◌, ◌==◌, if◌then◌else◌, ◌⊎◌, inl, inr, [], ◌∷◌, length, take, Option, Some, None, refl, sym, ap, ◌∙◌, arith}
use Rattle.std.specs.List.{list_all}
use Rattle.std.proofs.lemmas.Bool.{eqb-true}
use Rattle.sv_tree.specs.declared.token.TokenKind.{TokenKind}
use Rattle.sv_tree.specs.declared.token.TokenKind.TheVariants as kind
use Rattle.sv_lex.specs.declared.piece.Piece.TheVariants.{Spelled, Wrong}
use Rattle.sv_lex.specs.declared.piece.Defect.TheVariants as defect
use Rattle.sv_lex.specs.declared.piece.Class.TheVariants as class
use Rattle.sv_lex.specs.Spelling.{Bytes, spelling, is_empty, ends_comment, is_letter, is_mark, is_mark_1, is_mark_2, is_mark_3, after_slash, is_not_line_feed, is_blank}
use Rattle.std.specs.Char.{is_ascii_digit}
use Rattle.sv_lex.specs.Cut.{front, longest, opens_comment, piece_of, is_zero}
use Rattle.sv_lex.specs.Scan.{scan, run, comment_end, mark, mark_len, slash, comment_by}
use Rattle.sv_lex.proofs.Greatest.{which}
use Rattle.sv_lex.proofs.Longest.{Ends, Never, ends_after, ends_empty, ends_all, never_nil, front_at, front_comment, front_none, Found, found_comment_end}
use Rattle.sv_lex.proofs.Fronts.{apart, no_comment, front_word, front_decimal, front_marked, front_text, front_quoted}

abbrev mark_from : ℕ → Bytes → Bool
mark_from b s = is_mark (b ∷ s)

abbrev MarkFound : (Bytes → Bool) → Bytes → ℕ → Type 0
MarkFound q t zero = Never q t
MarkFound q t (suc k) = Ends q t k

not_zero : (k : ℕ) → (suc k == 0) ≡ false
not_zero k = by (suc k == 0) refl
  where
    by : (c : Bool) → (suc k == 0) ≡ c → c ≡ false
    by true e = absurd (omega (arith, eqb-true (suc k) 0 e))
    by false e = refl

-- three lengths are tried, the longest first
mark_found : (b : ℕ) (t : Bytes) → MarkFound (mark_from b) t (mark_len (b ∷ t))
mark_found b [] = by (is_mark_1 b) refl
  where
    by : (c : Bool) → is_mark_1 b ≡ c → MarkFound (mark_from b) [] (if c then 1 else 0)
    by true e = record { fits = omega arith; passes = e; above = λ m l u. absurd (omega arith) }
    by false e = never_nil (mark_from b) e
mark_found b (c ∷ []) = by (is_mark_2 b c) (is_mark_1 b) refl refl
  where
    one : is_mark_2 b c ≡ false → (m : ℕ) → 0 < m → m ≤ length (c ∷ []) → is_mark (b ∷ take m (c ∷ [])) ≡ false
    one e zero l u = absurd (omega arith)
    one e (suc zero) l u = e
    one e (suc (suc m)) l u = absurd (omega arith)

    all : is_mark_2 b c ≡ false → is_mark_1 b ≡ false → (m : ℕ) → m ≤ length (c ∷ []) → is_mark (b ∷ take m (c ∷ [])) ≡ false
    all e f zero u = f
    all e f (suc m) u = one e (suc m) (omega arith) u

    by : (two one_byte : Bool) → is_mark_2 b c ≡ two → is_mark_1 b ≡ one_byte → MarkFound (mark_from b) (c ∷ []) (if two then 2 else (if one_byte then 1 else 0))
    by true o e f = record { fits = omega arith; passes = e; above = λ m l u. absurd (omega arith) }
    by false true e f = record { fits = omega arith; passes = f; above = one e }
    by false false e f = record { none = all e f }
mark_found b (c ∷ d ∷ t) = by (is_mark_3 b c d) (is_mark_2 b c) (is_mark_1 b) refl refl refl
  where
    three : (t : Bytes) (m : ℕ) → 2 < m → m ≤ length (c ∷ d ∷ t) → is_mark (b ∷ take m (c ∷ d ∷ t)) ≡ false
    three t zero l u = absurd (omega arith)
    three t (suc zero) l u = absurd (omega arith)
    three t (suc (suc zero)) l u = absurd (omega arith)
    three [] (suc (suc (suc m))) l u = absurd (omega arith)
    three (x ∷ t) (suc (suc (suc m))) l u = refl

    two_more : is_mark_3 b c d ≡ false → (m : ℕ) → 1 < m → m ≤ length (c ∷ d ∷ t) → is_mark (b ∷ take m (c ∷ d ∷ t)) ≡ false
    two_more e zero l u = absurd (omega arith)
    two_more e (suc zero) l u = absurd (omega arith)
    two_more e (suc (suc zero)) l u = e
    two_more e (suc (suc (suc m))) l u = three t (suc (suc (suc m))) (omega arith) u

    one_more : is_mark_3 b c d ≡ false → is_mark_2 b c ≡ false → (m : ℕ) → 0 < m → m ≤ length (c ∷ d ∷ t) → is_mark (b ∷ take m (c ∷ d ∷ t)) ≡ false
    one_more e f zero l u = absurd (omega arith)
    one_more e f (suc zero) l u = f
    one_more e f (suc (suc m)) l u = two_more e (suc (suc m)) (omega arith) u

    all : is_mark_3 b c d ≡ false → is_mark_2 b c ≡ false → is_mark_1 b ≡ false → (m : ℕ) → m ≤ length (c ∷ d ∷ t) → is_mark (b ∷ take m (c ∷ d ∷ t)) ≡ false
    all e f g zero u = g
    all e f g (suc m) u = one_more e f (suc m) (omega arith) u

    by : (three_bytes two one_byte : Bool) → is_mark_3 b c d ≡ three_bytes → is_mark_2 b c ≡ two → is_mark_1 b ≡ one_byte
        → MarkFound (mark_from b) (c ∷ d ∷ t) (if three_bytes then 3 else (if two then 2 else (if one_byte then 1 else 0)))
    by true s o e f g = record { fits = omega arith; passes = e; above = three t }
    by false true o e f g = record { fits = omega arith; passes = f; above = two_more e }
    by false false true e f g = record { fits = omega arith; passes = g; above = one_more e f }
    by false false false e f g = record { none = all e f g }

-- where texts that begin with b and go on as t are marks or nothing
module _ (b : ℕ) (q : Bytes → Bool) (kind_of : Bytes → Option TokenKind) (rule : (s : Bytes) → spelling (b ∷ s) ≡ (if q s then Some (kind_of s) else None)) (t : Bytes)
    (same : (m : ℕ) → q (take m t) ≡ is_mark (b ∷ take m t)) (marks : (m : ℕ) → kind_of (take m t) ≡ Some kind.Mark)
    (plain : (c : Bool) → (opens_comment (b ∷ t) && c) ≡ false) (quote : (b == 34) ≡ false) where
  front_mark : front (b ∷ t) ≡ mark (b ∷ t)
  front_mark = by (mark_len (b ∷ t)) (mark_found b t)
    where
      by : (n : ℕ) → MarkFound (mark_from b) t n → front (b ∷ t) ≡ (if n == 0 then Wrong defect.BadChar else Spelled kind.Mark n)
      by zero h = front_none b q kind_of rule t (record { none = λ m u. same m ∙ h.none m u }) ∙ ap (λ c. Wrong (if c then defect.OpenString else defect.BadChar)) quote
      by (suc k) h =
          let ends : Ends q t k = record { fits = h.fits; passes = same k ∙ h.passes; above = λ m l u. same m ∙ h.above m l u } in
          let at = front_at b q kind_of rule t k ends (plain (is_zero k)) in
          let more : (suc k == 0) ≡ false = not_zero k in
          at ∙ ap (λ o. piece_of (Some o) (suc k)) (marks k) ∙ sym (ap (λ c. if c then Wrong defect.BadChar else Spelled kind.Mark (suc k)) more)

-- ---- what begins with a slash

abbrev slashed : Bytes → Bool
slashed s = after_slash s || is_mark (47 ∷ s)

abbrev slash_kind : Bytes → Option TokenKind
slash_kind s = if after_slash s then None else Some kind.Mark

slash_rule : (s : Bytes) → spelling (47 ∷ s) ≡ (if slashed s then Some (slash_kind s) else None)
slash_rule s = by (after_slash s) (is_mark (47 ∷ s))
  where
    by : (f a : Bool) → (if f then Some None else (if a then Some (Some kind.Mark) else None)) ≡ (if f || a then Some (if f then None else Some kind.Mark) else None)
    by true a = refl
    by false true = refl
    by false false = refl

no_line_mark : (s : Bytes) → is_mark (47 ∷ 47 ∷ s) ≡ false
unfolding is_mark_2 is_mark_3
no_line_mark [] = refl
no_line_mark (x ∷ []) = refl
no_line_mark (x ∷ y ∷ s) = refl

no_comment_mark : (s : Bytes) → is_mark (47 ∷ 42 ∷ s) ≡ false
unfolding is_mark_2 is_mark_3
no_comment_mark [] = refl
no_comment_mark (x ∷ []) = refl
no_comment_mark (x ∷ y ∷ s) = refl

or_false : (c d : Bool) → d ≡ false → (c || d) ≡ c
or_false true d e = refl
or_false false d e = e

slash_alone : is_mark_1 47 ≡ true
unfolding is_mark_1
slash_alone = refl

front_slash : (t : Bytes) → front (47 ∷ t) ≡ slash t
front_slash [] = front_mark 47 slashed slash_kind slash_rule [] (λ m. nil m) (λ m. kinds m) (λ c. refl) refl
  where
    nil : (m : ℕ) → slashed (take m []) ≡ is_mark (47 ∷ take m [])
    nil zero = refl
    nil (suc m) = refl

    kinds : (m : ℕ) → slash_kind (take m []) ≡ Some kind.Mark
    kinds zero = refl
    kinds (suc m) = refl
front_slash (b ∷ t) = by (which (b == 47)) (which (b == 42))
  where
    line : front (47 ∷ 47 ∷ t) ≡ slash (47 ∷ t)
    line =
        let n : ℕ = run class.Line t in
        let inner : (s : Bytes) → slashed (47 ∷ s) ≡ list_all is_not_line_feed s = λ s. or_false (list_all is_not_line_feed s) (is_mark (47 ∷ 47 ∷ s)) (no_line_mark s) in
        let all = ends_all is_not_line_feed t in
        let at = front_at 47 slashed slash_kind slash_rule (47 ∷ t) (suc n) (ends_after (list_all is_not_line_feed) slashed 47 t inner n all) refl in
        let more : n + 2 ≡ suc (suc n) = omega arith in
        rw more (at ∙ ap (λ c. piece_of (Some (if c then None else Some kind.Mark)) (suc (suc n))) all.passes)

    long : (o : Option ℕ) → Found ends_comment t 2 o → front (47 ∷ 42 ∷ t) ≡ comment_by o
    long o = on o
      where
        inner : (s : Bytes) → slashed (42 ∷ s) ≡ ends_comment s
        inner s = or_false (ends_comment s) (is_mark (47 ∷ 42 ∷ s)) (no_comment_mark s)

        on : (o : Option ℕ) → Found ends_comment t 2 o → front (47 ∷ 42 ∷ t) ≡ comment_by o
        on None h = front_comment 47 slashed slash_kind slash_rule (42 ∷ t) (record { fits = omega arith; passes = slash_alone; above = λ m. later m }) refl
          where
            later : (m : ℕ) → 0 < m → m ≤ length (42 ∷ t) → slashed (take m (42 ∷ t)) ≡ false
            later zero l u = absurd (omega arith)
            later (suc m) l u = inner (take m t) ∙ h.none m (omega arith)
        on (Some n) h =
            let at = front_at 47 slashed slash_kind slash_rule (42 ∷ t) (suc h.0) (ends_after ends_comment slashed 42 t inner h.0 h.2) refl in
            let more : n ≡ suc (suc h.0) = omega (arith, h.1) in
            rw more (at ∙ ap (λ c. piece_of (Some (if c then None else Some kind.Mark)) (suc (suc h.0))) h.2.passes)

    other : (b == 47) ≡ false → (b == 42) ≡ false → front (47 ∷ b ∷ t) ≡ mark (47 ∷ b ∷ t)
    other e f = front_mark 47 slashed slash_kind slash_rule (b ∷ t) (λ m. ap (λ c. c || is_mark (47 ∷ take m (b ∷ t))) (fails m)) (λ m. ap (λ c. if c then None else Some kind.Mark) (fails m)) (λ c. ap (λ k. k && c) f) refl
      where
        fails : (m : ℕ) → after_slash (take m (b ∷ t)) ≡ false
        fails zero = refl
        fails (suc m) = ap (λ c. if c then list_all is_not_line_feed (take m t) else (if b == 42 then ends_comment (take m t) else false)) e ∙ ap (λ c. if c then ends_comment (take m t) else false) f

    by : ((b == 47) ≡ true) ⊎ ((b == 47) ≡ false) → ((b == 42) ≡ true) ⊎ ((b == 42) ≡ false) → front (47 ∷ b ∷ t) ≡ slash (b ∷ t)
    by (inl e) f = rw (eqb-true b 47 e) line
    by (inr e) (inl f) = rw (eqb-true b 42 f) (long (comment_end 2 t) (found_comment_end t 2))
    by (inr e) (inr f) = rw e (rw f (other e f))

-- ---- the whole

blank_rule : (b : ℕ) → is_letter b ≡ false → is_ascii_digit b ≡ false → (b == 39) ≡ false → (b == 34) ≡ false → (b == 36) ≡ false → (b == 96) ≡ false → is_blank b ≡ true
    → (s : Bytes) → spelling (b ∷ s) ≡ (if is_empty s then Some None else None)
blank_rule b e1 e2 e3 e4 e5 e6 e7 s = rw e1 (rw e2 (rw e3 (rw e4 (rw e5 (rw e6 (rw e7 refl))))))

mark_rule : (b : ℕ) → is_letter b ≡ false → is_ascii_digit b ≡ false → (b == 39) ≡ false → (b == 34) ≡ false → (b == 36) ≡ false → (b == 96) ≡ false → is_blank b ≡ false → (b == 47) ≡ false
    → (s : Bytes) → spelling (b ∷ s) ≡ (if is_mark (b ∷ s) then Some (Some kind.Mark) else None)
mark_rule b e1 e2 e3 e4 e5 e6 e7 e8 s = rw e1 (rw e2 (rw e3 (rw e4 (rw e5 (rw e6 (rw e7 (rw e8 refl)))))))

front_nil : front [] ≡ Wrong defect.BadChar
unfolding front longest
front_nil = refl

pub front_is_scan : (z : Bytes) → front z ≡ scan z
unfolding scan
front_is_scan [] = front_nil
front_is_scan (b ∷ t) = by1 (which (is_letter b))
  where
    Goal : Type 0
    Goal = front (b ∷ t) ≡ scan (b ∷ t)

    Tells : Bool → Type 0
    Tells c = (c ≡ true) ⊎ (c ≡ false)

    by8 : is_letter b ≡ false → is_ascii_digit b ≡ false → (b == 39) ≡ false → (b == 34) ≡ false → (b == 36) ≡ false → (b == 96) ≡ false → is_blank b ≡ false → Tells (b == 47) → Goal
    by8 e1 e2 e3 e4 e5 e6 e7 (inl e) = rw (eqb-true b 47 e) (front_slash t)
    by8 e1 e2 e3 e4 e5 e6 e7 (inr e) =
        let at = front_mark b (λ s. is_mark (b ∷ s)) (λ s. Some kind.Mark) (mark_rule b e1 e2 e3 e4 e5 e6 e7 e) t (λ m. refl) (λ m. refl) (λ c. no_comment b t c e) e4 in
        rw e1 (rw e2 (rw e3 (rw e4 (rw e5 (rw e6 (rw e7 (rw e at)))))))

    by7 : is_letter b ≡ false → is_ascii_digit b ≡ false → (b == 39) ≡ false → (b == 34) ≡ false → (b == 36) ≡ false → (b == 96) ≡ false → Tells (is_blank b) → Goal
    by7 e1 e2 e3 e4 e5 e6 (inl e) =
        let at = front_at b is_empty (λ s. None) (blank_rule b e1 e2 e3 e4 e5 e6 e) t 0 (ends_empty t) (no_comment b t true (apart is_blank b 47 e refl)) in
        rw e1 (rw e2 (rw e3 (rw e4 (rw e5 (rw e6 (rw e at))))))
    by7 e1 e2 e3 e4 e5 e6 (inr e) = by8 e1 e2 e3 e4 e5 e6 e (which (b == 47))

    by6 : is_letter b ≡ false → is_ascii_digit b ≡ false → (b == 39) ≡ false → (b == 34) ≡ false → (b == 36) ≡ false → Tells (b == 96) → Goal
    by6 e1 e2 e3 e4 e5 (inl e) = rw (eqb-true b 96 e) (front_marked 96 kind.Directive (λ s. refl) refl refl t)
    by6 e1 e2 e3 e4 e5 (inr e) = by7 e1 e2 e3 e4 e5 e (which (is_blank b))

    by5 : is_letter b ≡ false → is_ascii_digit b ≡ false → (b == 39) ≡ false → (b == 34) ≡ false → Tells (b == 36) → Goal
    by5 e1 e2 e3 e4 (inl e) = rw (eqb-true b 36 e) (front_marked 36 kind.System (λ s. refl) refl refl t)
    by5 e1 e2 e3 e4 (inr e) = by6 e1 e2 e3 e4 e (which (b == 96))

    by4 : is_letter b ≡ false → is_ascii_digit b ≡ false → (b == 39) ≡ false → Tells (b == 34) → Goal
    by4 e1 e2 e3 (inl e) = rw (eqb-true b 34 e) (front_text t)
    by4 e1 e2 e3 (inr e) = by5 e1 e2 e3 e (which (b == 36))

    by3 : is_letter b ≡ false → is_ascii_digit b ≡ false → Tells (b == 39) → Goal
    by3 e1 e2 (inl e) = rw (eqb-true b 39 e) (front_quoted t)
    by3 e1 e2 (inr e) = by4 e1 e2 e (which (b == 34))

    by2 : is_letter b ≡ false → Tells (is_ascii_digit b) → Goal
    by2 e1 (inl e) = rw e1 (rw e (front_decimal b t e1 e))
    by2 e1 (inr e) = by3 e1 e (which (b == 39))

    by1 : Tells (is_letter b) → Goal
    by1 (inl e) = rw e (front_word b t e)
    by1 (inr e) = by2 e (which (is_ascii_digit b))
