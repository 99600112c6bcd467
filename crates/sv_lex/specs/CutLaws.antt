-- Laws of the cut, for the crates above: one step at a time, how many tokens there are, and what the tokens of an answer spell.
use Rattle.std.specs.Prelude.{◌≡◌, ◌≤◌, ◌<◌, ℕ, ◌-◌, Bool, ◌&&◌, if◌then◌else◌, List, [], ◌∷◌, length, take, drop, map, Some, None}
use Rattle.std.specs.Option.{is_some}
use Rattle.std.proofs.Common.{zero, suc, true, false, refl, ap, ◌∙◌, arith}
use Rattle.sv_tree.specs.declared.token.Token.{Token}
use Rattle.sv_tree.specs.declared.token.TokenKind.{TokenKind}
use Rattle.sv_tree.specs.Tokens.{AreNamed}
use Rattle.sv_tree.specs.Names.{Grows}
use Rattle.sv_tree.specs.NameLaws.{slice_get-grown, slice_get-within, get_or-slice_get}
use Rattle.vs_base.specs.declared.origin.Origin.{Origin}
use Rattle.sv_lex.specs.declared.piece.Piece.{Piece}
use Rattle.sv_lex.specs.declared.piece.Piece.TheVariants.{Skipped, Spelled, Wrong}
use Rattle.sv_lex.specs.declared.piece.Defect.{Defect}
use Rattle.sv_lex.specs.declared.piece.Defect.TheVariants as defect
use Rattle.sv_lex.specs.Spelling.{Bytes, Spells, spelling}
use Rattle.sv_lex.specs.Cut.{greatest, longest, front, front_by, is_zero, opens_comment, piece_of, Within, Lexed, Cut, next, before, cut_by, cut_from, cut, advance}
use Rattle.sv_lex.specs.Lexeme.{spelled, lexeme_of}
use Rattle.sv_lex.specs.Answer.{Shows, ShowsAll}

-- ---- a piece lies within the bytes

greatest_within : (p : ℕ → Bool) (n : ℕ) → greatest p n ≤ n
greatest_within p zero = omega arith
greatest_within p (suc n) = by (p (suc n)) (greatest_within p n)
  where
    by : (c : Bool) → greatest p n ≤ n → (if c then suc n else greatest p n) ≤ suc n
    by true h = omega arith
    by false h = omega arith

piece_within : (z : Bytes) (o : Spells) (n : ℕ) → 0 < n → n ≤ length z → Within z (piece_of o n)
piece_within z None n l u = tt
piece_within z (Some None) n l u = (l, u)
piece_within z (Some (Some k)) n l u = (l, u)

pub front_within : (z : Bytes) → Within z (front z)
unfolding front longest
front_within z = by (longest z) (greatest_within (λ n. is_some (spelling (take n z))) (length z))
  where
    by : (n : ℕ) → n ≤ length z → Within z (front_by z n)
    by zero u = tt
    by (suc n) u = on (opens_comment z && is_zero n)
      where
        on : (c : Bool) → Within z (if c then Wrong defect.OpenComment else piece_of (spelling (take (suc n) z)) (suc n))
        on true = tt
        on false = piece_within z (spelling (take (suc n) z)) (suc n) (omega arith) u

-- ---- one step of the cut

cut_from_drop : (n : ℕ) (at : Origin) (z : Bytes) → cut_from n at z ≡ cut_from 0 (advance at (take n z)) (drop n z)
cut_from_drop zero at z = refl
cut_from_drop (suc n) at [] = refl
cut_from_drop (suc n) at (b ∷ z) = cut_from_drop n (next at b) z

rest_after : (n : ℕ) (at : Origin) (b : ℕ) (z : Bytes) → 0 < n → cut_from (n - 1) (next at b) z ≡ cut_from 0 (advance at (take n (b ∷ z))) (drop n (b ∷ z))
rest_after zero at b z l = absurd (omega arith)
rest_after (suc n) at b z l = let e : suc n - 1 ≡ n = omega arith in ap (λ k. cut_from k (next at b) z) e ∙ cut_from_drop n (next at b) z

-- at the end
pub cut_nil : (at : Origin) (z : Bytes) → length z ≡ 0 → cut at z ≡ record { tokens = []; fault = None }
unfolding cut
cut_nil at [] h = refl
cut_nil at (b ∷ z) h = absurd (omega arith)

-- at a blank or a comment
pub cut_skipped : (at : Origin) (z : Bytes) (n : ℕ) → 0 < n → 0 < length z → front z ≡ Skipped n → cut at z ≡ cut (advance at (take n z)) (drop n z)
unfolding cut
cut_skipped at [] n l s h = absurd (omega arith)
cut_skipped at (b ∷ z) n l s h = ap (λ p. cut_by p at (b ∷ z) (λ n. cut_from (n - 1) (next at b) z)) h ∙ rest_after n at b z l

-- at a token
pub cut_spelled : (at : Origin) (z : Bytes) (k : TokenKind) (n : ℕ) → 0 < n → 0 < length z → front z ≡ Spelled k n
    → cut at z ≡ before (record { kind = k; text = take n z; at = at } ∷ []) (cut (advance at (take n z)) (drop n z))
unfolding cut
cut_spelled at [] k n l s h = absurd (omega arith)
cut_spelled at (b ∷ z) k n l s h = ap (λ p. cut_by p at (b ∷ z) (λ n. cut_from (n - 1) (next at b) z)) h ∙ ap (before (record { kind = k; text = take n (b ∷ z); at = at } ∷ [])) (rest_after n at b z l)

-- at a fault
pub cut_wrong : (at : Origin) (z : Bytes) (d : Defect) → 0 < length z → front z ≡ Wrong d → cut at z ≡ record { tokens = []; fault = Some (d, at) }
unfolding cut
cut_wrong at [] d s h = absurd (omega arith)
cut_wrong at (b ∷ z) d s h = ap (λ p. cut_by p at (b ∷ z) (λ n. cut_from (n - 1) (next at b) z)) h

-- ---- how many tokens there are

cut_by_few : (p : Piece) (at : Origin) (z : Bytes) (rest : ℕ → Cut) (few : ℕ) → ((n : ℕ) → length (rest n).tokens ≤ few) → length (cut_by p at z rest).tokens ≤ suc few
cut_by_few (Wrong d) at z rest few h = omega arith
cut_by_few (Skipped n) at z rest few h = omega (arith, h n)
cut_by_few (Spelled k n) at z rest few h = omega (arith, h n)

cut_from_few : (left : ℕ) (at : Origin) (z : Bytes) → length (cut_from left at z).tokens ≤ length z
cut_from_few left at [] = omega arith
cut_from_few (suc left) at (b ∷ z) = omega (arith, cut_from_few left (next at b) z)
cut_from_few zero at (b ∷ z) = cut_by_few (front (b ∷ z)) at (b ∷ z) (λ n. cut_from (n - 1) (next at b) z) (length z) (λ n. cut_from_few (n - 1) (next at b) z)

-- no more than bytes
pub cut_few : (at : Origin) (z : Bytes) → length (cut at z).tokens ≤ length z
unfolding cut
cut_few at z = cut_from_few 0 at z

-- ---- tokens that show the cut's

pub shows_length : (names : List (List ℕ)) (ts : List Token) (xs : List Lexed) → ShowsAll names ts xs → length ts ≡ length xs
shows_length names [] [] h = refl
shows_length names [] (x ∷ xs) h = absurd h
shows_length names (t ∷ ts) [] h = absurd h
shows_length names (t ∷ ts) (x ∷ xs) h = ap suc (shows_length names ts xs h.1)

-- each number is one of the table
pub shows_named : (names : List (List ℕ)) (ts : List Token) (xs : List Lexed) → ShowsAll names ts xs → AreNamed names ts
shows_named names [] xs h = tt
shows_named names (t ∷ ts) [] h = absurd h
shows_named names (t ∷ ts) (x ∷ xs) h = (slice_get-within names t.name.0 x.text h.0.text, shows_named names ts xs h.1)

-- a table that grew shows the same
pub shows_grown : (old new : List (List ℕ)) → Grows old new → (ts : List Token) (xs : List Lexed) → ShowsAll old ts xs → ShowsAll new ts xs
shows_grown old new g [] [] h = tt
shows_grown old new g [] (x ∷ xs) h = h
shows_grown old new g (t ∷ ts) [] h = h
shows_grown old new g (t ∷ ts) (x ∷ xs) h =
    (record { kind = h.0.kind; text = slice_get-grown old new g t.name.0 x.text h.0.text; at = h.0.at }, shows_grown old new g ts xs h.1)

spelled_one : (names : List (List ℕ)) (t : Token) (x : Lexed) → Shows names t x → spelled names t ≡ lexeme_of x
spelled_one names t x h = rw (h.kind, get_or-slice_get names t.name.0 x.text h.text) refl

-- their kinds and texts are those of the cut
pub map-spelled : (names : List (List ℕ)) (ts : List Token) (xs : List Lexed) → ShowsAll names ts xs → map (spelled names) ts ≡ map lexeme_of xs
map-spelled names [] [] h = refl
map-spelled names [] (x ∷ xs) h = absurd h
map-spelled names (t ∷ ts) [] h = absurd h
map-spelled names (t ∷ ts) (x ∷ xs) h = rw (spelled_one names t x h.0, map-spelled names ts xs h.1) refl
