-- The longest front of a text that passes a test, and what stands at the front where texts that begin with one byte are spelled by one rule.
use Rattle.std.proofs.Common.{◌≡◌, ◌≤◌, ◌<◌, ℕ, zero, suc, ◌+◌, Bool, true, false, ◌&&◌, ◌==◌, if◌then◌else◌, ◌⊎◌, inl, inr, [], ◌∷◌, length, take, Option, Some, None, refl, ap, ◌∙◌, arith}
use Rattle.std.specs.Prelude.{not}
use Rattle.std.specs.Option.{is_some}
use Rattle.std.specs.List.{prefix_len, list_all}
use Rattle.std.proofs.lemmas.List.Sums.{prefix_len-le-length}
use Rattle.sv_tree.specs.declared.token.TokenKind.{TokenKind}
use Rattle.sv_lex.specs.declared.piece.Piece.TheVariants.{Wrong}
use Rattle.sv_lex.specs.declared.piece.Defect.TheVariants as defect
use Rattle.sv_lex.specs.Spelling.{Bytes, spelling, is_empty, closes, ends_comment}
use Rattle.sv_lex.specs.Cut.{longest, front, front_by, is_zero, opens_comment, piece_of}
use Rattle.sv_lex.specs.Scan.{closing, comment_end}
use Rattle.sv_lex.proofs.Greatest.{which, greatest_at, greatest_none, all_front, not_all_past}

-- the front of k elements is the longest that passes
pub record Ends (q : Bytes → Bool) (t : Bytes) (k : ℕ) : Type 0 where
  pub fits : k ≤ length t
  pub passes : q (take k t) ≡ true
  pub above : (m : ℕ) → k < m → m ≤ length t → q (take m t) ≡ false

-- no front passes
pub record Never (q : Bytes → Bool) (t : Bytes) : Type 0 where
  pub none : (m : ℕ) → m ≤ length t → q (take m t) ≡ false

module _ (q r : Bytes → Bool) (x : ℕ) (t : Bytes) (same : (s : Bytes) → r (x ∷ s) ≡ q s) where
  pub ends_after : (k : ℕ) → Ends q t k → Ends r (x ∷ t) (suc k)
  ends_after k h = record { fits = omega (arith, h.fits); passes = same (take k t) ∙ h.passes; above = later }
    where
      later : (m : ℕ) → suc k < m → m ≤ length (x ∷ t) → r (take m (x ∷ t)) ≡ false
      later zero l u = absurd (omega arith)
      later (suc m) l u = same (take m t) ∙ h.above m (omega arith) (omega arith)

  pub never_after : r [] ≡ false → Never q t → Never r (x ∷ t)
  never_after empty h = record { none = later }
    where
      later : (m : ℕ) → m ≤ length (x ∷ t) → r (take m (x ∷ t)) ≡ false
      later zero u = empty
      later (suc m) u = same (take m t) ∙ h.none m (omega arith)

-- where nothing that goes on passes
pub never_here : (r : Bytes → Bool) (x : ℕ) (t : Bytes) → r [] ≡ false → ((s : Bytes) → r (x ∷ s) ≡ false) → Never r (x ∷ t)
never_here r x t empty fails = never_after (λ s. false) r x t fails empty (record { none = λ m h. refl })

pub ends_empty : (t : Bytes) → Ends is_empty t 0
ends_empty t = record { fits = omega arith; passes = refl; above = later t }
  where
    later : (t : Bytes) (m : ℕ) → 0 < m → m ≤ length t → is_empty (take m t) ≡ false
    later t zero l u = absurd (omega arith)
    later [] (suc m) l u = absurd (omega arith)
    later (x ∷ t) (suc m) l u = refl

pub ends_all : (p : ℕ → Bool) (t : Bytes) → Ends (list_all p) t (prefix_len p t)
ends_all p t = record { fits = prefix_len-le-length p t; passes = all_front p t; above = λ m. not_all_past p t m }

pub never_nil : (r : Bytes → Bool) → r [] ≡ false → Never r []
never_nil r empty = record { none = later }
  where
    later : (m : ℕ) → m ≤ 0 → r (take m []) ≡ false
    later zero u = empty
    later (suc m) u = absurd (omega arith)

-- what the longest spelling at the front is, where texts that begin with b are spelled as q and kind_of say
module _ (b : ℕ) (q : Bytes → Bool) (kind_of : Bytes → Option TokenKind) (rule : (s : Bytes) → spelling (b ∷ s) ≡ (if q s then Some (kind_of s) else None)) where
  some_if : (s : Bytes) → is_some (spelling (b ∷ s)) ≡ q s
  some_if s = ap is_some (rule s) ∙ by (q s)
    where
      by : (c : Bool) → is_some (if c then Some (kind_of s) else None) ≡ c
      by true = refl
      by false = refl

  longest_at : (t : Bytes) (n : ℕ) → Ends q t n → longest (b ∷ t) ≡ suc n
  unfolding longest
  longest_at t n h =
      greatest_at (λ k. is_some (spelling (take k (b ∷ t)))) (length (b ∷ t)) n (omega (arith, h.fits)) (some_if (take n t) ∙ h.passes) (later)
    where
      later : (m : ℕ) → suc n < m → m ≤ length (b ∷ t) → is_some (spelling (take m (b ∷ t))) ≡ false
      later zero l u = absurd (omega arith)
      later (suc m) l u = some_if (take m t) ∙ h.above m (omega arith) (omega arith)

  pub front_at : (t : Bytes) (n : ℕ) → Ends q t n → (opens_comment (b ∷ t) && is_zero n) ≡ false → front (b ∷ t) ≡ piece_of (Some (kind_of (take n t))) (suc n)
  unfolding front
  front_at t n h plain =
      let len = longest_at t n h in
      let shown : spelling (b ∷ take n t) ≡ Some (kind_of (take n t)) = rule (take n t) ∙ ap (λ c. if c then Some (kind_of (take n t)) else None) h.passes in
      ap (front_by (b ∷ t)) len ∙ ap (λ c. if c then Wrong defect.OpenComment else piece_of (spelling (take (suc n) (b ∷ t))) (suc n)) plain ∙ ap (λ r. piece_of r (suc n)) shown

  pub front_comment : (t : Bytes) → Ends q t 0 → opens_comment (b ∷ t) ≡ true → front (b ∷ t) ≡ Wrong defect.OpenComment
  unfolding front
  front_comment t h opens =
      ap (front_by (b ∷ t)) (longest_at t 0 h) ∙ ap (λ c. if c && true then Wrong defect.OpenComment else piece_of (spelling (take 1 (b ∷ t))) 1) opens

  pub front_none : (t : Bytes) → Never q t → front (b ∷ t) ≡ Wrong (if b == 34 then defect.OpenString else defect.BadChar)
  unfolding front longest
  front_none t h =
      let len : longest (b ∷ t) ≡ 0 = greatest_none (λ k. is_some (spelling (take k (b ∷ t)))) (length (b ∷ t)) (λ m u. some_if (take m t) ∙ h.none m (omega arith)) in
      ap (front_by (b ∷ t)) len

-- ---- the two walks that look for an end

-- what a walk found that has counted some bytes
abbrev pub Found : (Bytes → Bool) → Bytes → ℕ → Option ℕ → Type 0
Found q t count None = Never q t
Found q t count (Some n) = (k : ℕ) × (n ≡ count + k) × Ends q t k

pub found_after : (q r : Bytes → Bool) (x : ℕ) (t : Bytes) → ((s : Bytes) → r (x ∷ s) ≡ q s) → r [] ≡ false → (count : ℕ) (o : Option ℕ) → Found q t (count + 1) o → Found r (x ∷ t) count o
found_after q r x t same empty count None h = never_after q r x t same empty h
found_after q r x t same empty count (Some n) h = let e : n ≡ count + suc h.0 = omega (arith, h.1) in (suc h.0, e, ends_after q r x t same h.0 h.2)

pub found_closing : (t : Bytes) (count before : ℕ) → Found (closes before) t count (closing count before t)
found_closing [] count before = never_nil (closes before) refl
found_closing (b ∷ t) count before = by (which (b == 10)) (which (b == 34 && not (before == 92))) (found_closing t (count + 1) b)
  where
    by : ((b == 10) ≡ true) ⊎ ((b == 10) ≡ false) → ((b == 34 && not (before == 92)) ≡ true) ⊎ ((b == 34 && not (before == 92)) ≡ false)
        → Found (closes b) t (count + 1) (closing (count + 1) b t) → Found (closes before) (b ∷ t) count (closing count before (b ∷ t))
    by (inl e) f rest = rw e (never_here (closes before) b t refl (λ s. ap (λ c. if c then false else (if b == 34 && not (before == 92) then is_empty s else closes b s)) e))
    by (inr e) (inl f) rest =
        let rule : (s : Bytes) → closes before (b ∷ s) ≡ is_empty s = λ s. ap (λ c. if c then false else (if b == 34 && not (before == 92) then is_empty s else closes b s)) e ∙ ap (λ c. if c then is_empty s else closes b s) f in
        rw e (rw f (1, refl, ends_after is_empty (closes before) b t rule 0 (ends_empty t)))
    by (inr e) (inr f) rest =
        let rule : (s : Bytes) → closes before (b ∷ s) ≡ closes b s = λ s. ap (λ c. if c then false else (if b == 34 && not (before == 92) then is_empty s else closes b s)) e ∙ ap (λ c. if c then is_empty s else closes b s) f in
        rw e (rw f (found_after (closes b) (closes before) b t rule refl count (closing (count + 1) b t) rest))

-- two tests that agree on every front that comes
same_found : (q r : Bytes → Bool) (x : ℕ) (t : Bytes) → r [] ≡ q [] → ((s : Bytes) → r (x ∷ s) ≡ q (x ∷ s)) → (count : ℕ) (o : Option ℕ) → Found q (x ∷ t) count o → Found r (x ∷ t) count o
same_found q r x t empty same count o = by o
  where
    at : (r [] ≡ q []) → ((s : Bytes) → r (x ∷ s) ≡ q (x ∷ s)) → (m : ℕ) → r (take m (x ∷ t)) ≡ q (take m (x ∷ t))
    at empty same zero = empty
    at empty same (suc m) = same (take m t)

    by : (o : Option ℕ) → Found q (x ∷ t) count o → Found r (x ∷ t) count o
    by None h = record { none = λ m u. at empty same m ∙ h.none m u }
    by (Some n) h = (h.0, h.1, record { fits = h.2.fits; passes = at empty same h.0 ∙ h.2.passes; above = λ m l u. at empty same m ∙ h.2.above m l u })

-- the test of what follows a byte of a comment
abbrev after_byte : ℕ → Bytes → Bool
after_byte b [] = false
after_byte b (d ∷ s) = if b == 42 && d == 47 then is_empty s else ends_comment (d ∷ s)

pub found_comment_end : (t : Bytes) (count : ℕ) → Found ends_comment t count (comment_end count t)
found_comment_end [] count = never_nil ends_comment refl
found_comment_end (b ∷ []) count = record { none = later }
  where
    later : (m : ℕ) → m ≤ length (b ∷ []) → ends_comment (take m (b ∷ [])) ≡ false
    later zero u = refl
    later (suc zero) u = refl
    later (suc (suc m)) u = absurd (omega arith)
found_comment_end (b ∷ c ∷ t) count = by (which (b == 42 && c == 47)) (found_comment_end (c ∷ t) (count + 1))
  where
    rule : (s : Bytes) → ends_comment (b ∷ s) ≡ after_byte b s
    rule [] = refl
    rule (d ∷ s) = refl

    by : ((b == 42 && c == 47) ≡ true) ⊎ ((b == 42 && c == 47) ≡ false) → Found ends_comment (c ∷ t) (count + 1) (comment_end (count + 1) (c ∷ t))
        → Found ends_comment (b ∷ c ∷ t) count (comment_end count (b ∷ c ∷ t))
    by (inl e) rest =
        let inner : (s : Bytes) → after_byte b (c ∷ s) ≡ is_empty s = λ s. ap (λ k. if k then is_empty s else ends_comment (c ∷ s)) e in
        let two = ends_after (after_byte b) ends_comment b (c ∷ t) rule 1 (ends_after is_empty (after_byte b) c t inner 0 (ends_empty t)) in
        rw e (2, refl, two)
    by (inr e) rest =
        let inner : (s : Bytes) → after_byte b (c ∷ s) ≡ ends_comment (c ∷ s) = λ s. ap (λ k. if k then is_empty s else ends_comment (c ∷ s)) e in
        rw e (found_after (after_byte b) ends_comment b (c ∷ t) rule refl count (comment_end (count + 1) (c ∷ t)) (same_found ends_comment (after_byte b) c t refl inner (count + 1) (comment_end (count + 1) (c ∷ t)) rest))
