-- Laws of a table of names, for the crates above.
use Rattle.std.specs.Prelude.{◌≡◌, ◌⊎◌, ◌<◌, ◌≤◌, ℕ, List, [], ◌∷◌, ◌++◌, length, slice_get, get_or, Some}
use Rattle.std.proofs.Common.{inl, inr, zero, suc, refl, sym, ap, ◌∙◌, arith, append_assoc, append-nil, length-append}
use Rattle.sv_tree.specs.Names.{EachOnce, IsAbsent, Grows, Interns}

-- ---- places

pub slice_get-within : (names : List (List ℕ)) (i : ℕ) (text : List ℕ) → slice_get names i ≡ Some text → i < length names
slice_get-within [] i text h = cc
slice_get-within (n ∷ ns) zero text h = omega arith
slice_get-within (n ∷ ns) (suc i) text h = omega (arith, slice_get-within ns i text h)

pub get_or-slice_get : (names : List (List ℕ)) (i : ℕ) (text : List ℕ) → slice_get names i ≡ Some text → get_or names i [] ≡ text
get_or-slice_get [] i text h = cc
get_or-slice_get (n ∷ ns) zero text h = cc
get_or-slice_get (n ∷ ns) (suc i) text h = get_or-slice_get ns i text h

pub slice_get-get_or : (names : List (List ℕ)) (i : ℕ) → i < length names → slice_get names i ≡ Some (get_or names i [])
slice_get-get_or [] i h = absurd (omega arith)
slice_get-get_or (n ∷ ns) zero h = refl
slice_get-get_or (n ∷ ns) (suc i) h = slice_get-get_or ns i (omega arith)

-- ---- each text once

-- two numbers of the table with one text are one number
pub same_id : (names : List (List ℕ)) (i j : ℕ) → EachOnce names → i < length names → j < length names → get_or names i [] ≡ get_or names j [] → i ≡ j
same_id names i j once i_in j_in same =
    once i j (get_or names i []) (slice_get-get_or names i i_in) (slice_get-get_or names j j_in ∙ ap Some (sym same))

-- ---- a table that grew

pub slice_get-grown : (old new : List (List ℕ)) → Grows old new → (i : ℕ) (text : List ℕ) → slice_get old i ≡ Some text → slice_get new i ≡ Some text
slice_get-grown old new g i text h = rw g.1 (front old i h)
  where
    front : (ns : List (List ℕ)) (i : ℕ) → slice_get ns i ≡ Some text → slice_get (ns ++ g.0) i ≡ Some text
    front [] i h = cc
    front (n ∷ ns) zero h = h
    front (n ∷ ns) (suc i) h = front ns i h

pub get_or-grown : (old new : List (List ℕ)) → Grows old new → (i : ℕ) → i < length old → get_or new i [] ≡ get_or old i []
get_or-grown old new g i h = get_or-slice_get new i (get_or old i []) (slice_get-grown old new g i (get_or old i []) (slice_get-get_or old i h))

pub length-grown : (old new : List (List ℕ)) → Grows old new → length old ≤ length new
length-grown old new g = omega (arith, ap length g.1, length-append old g.0)

pub grows_same : (names : List (List ℕ)) → Grows names names
grows_same names = ([], sym (append-nil names))

pub grows_further : (first second third : List (List ℕ)) → Grows first second → Grows second third → Grows first third
grows_further first second third g h = (g.0 ++ h.0, h.1 ∙ ap (λ r. r ++ h.0) g.1 ∙ append_assoc first g.0 h.0)

-- ---- a text at the end

-- what stands at a place of the longer list: an old text, or the new one at the end
pub slice_get-pushed : (ns : List (List ℕ)) (t x : List ℕ) (i : ℕ) → slice_get (ns ++ t ∷ []) i ≡ Some x → (slice_get ns i ≡ Some x) ⊎ ((i ≡ length ns) × (t ≡ x))
slice_get-pushed [] t x zero at = inr (refl, cc)
slice_get-pushed [] t x (suc i) at = cc
slice_get-pushed (n ∷ ns) t x zero at = inl at
slice_get-pushed (n ∷ ns) t x (suc i) at =
    elim (slice_get-pushed ns t x i at) [ inl h ↦ inl h | inr h ↦ inr (ap suc h.0, h.1) ]

pub slice_get-last : (ns : List (List ℕ)) (t : List ℕ) → slice_get (ns ++ t ∷ []) (length ns) ≡ Some t
slice_get-last [] t = refl
slice_get-last (n ∷ ns) t = slice_get-last ns t

pub once_pushed : (ns : List (List ℕ)) (t : List ℕ) → EachOnce ns → IsAbsent ns t → EachOnce (ns ++ t ∷ [])
once_pushed ns t once absent i j x at_i at_j =
    elim (slice_get-pushed ns t x i at_i) [
      | inl a ↦ (elim (slice_get-pushed ns t x j at_j) [ inl b ↦ once i j x a b | inr b ↦ absurd (absent i (a ∙ ap Some (sym b.1))) ])
      | inr a ↦ (elim (slice_get-pushed ns t x j at_j) [ inl b ↦ absurd (absent j (b ∙ ap Some (sym a.1))) | inr b ↦ a.0 ∙ sym b.0 ])
    ]

-- ---- interning

module _ (old new : List (List ℕ)) (text : List ℕ) (id : ℕ) where
  -- the number that interning gives has the text
  pub interned_text : Interns old new text id → slice_get new id ≡ Some text
  interned_text (inl h) = rw h.0 h.1
  interned_text (inr h) = rw (h.0, h.1) (slice_get-last old text)

  pub interned_grows : Interns old new text id → Grows old new
  interned_grows (inl h) = ([], h.0 ∙ sym (append-nil old))
  interned_grows (inr h) = (text ∷ [], h.0)

  pub interned_once : Interns old new text id → EachOnce old → EachOnce new
  interned_once (inl h) once = rw h.0 once
  interned_once (inr h) once = rw h.0 (once_pushed old text once h.2)
