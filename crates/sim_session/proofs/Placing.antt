-- The values of the variables, word by word and variable by variable.
use Rattle.std.proofs.Common.{◌≡◌, ℕ, zero, suc, ◌+◌, ◌<◌, Bool, true, false, cond, List, [], ◌∷◌, refl, sym, ap, ◌∙◌, arith, drop, length, drop-cons, add-one, ◌++◌, take, ◌-◌, ◌≤◌}
use Rattle.std.specs.List.{list_all}
use Rattle.std.proofs.Math.Seq.{take-length}
use Rattle.std.proofs.lemmas.List.{append-nil, take_all, drop_all}
use Rattle.std.specs.Prelude.{slice_set, slice_index, slice_index_or, ◌&&◌, ◌==◌, pos}
use Rattle.std.proofs.lemmas.Bool.{eq-eqb, and_parts}
use Rattle.std.proofs.lemmas.Nat.{pow_pos}
use Rattle.std.proofs.Math.Nat.{mod-eq_of_lt}
use Rattle.vs_base.specs.Number.{Number, kept, placed}
use Rattle.vs_base.specs.NumberLaws.{same_number, placed-width}
use Rattle.rtl_ir.specs.declared.design.Var.{Var}
use Rattle.rtl_pieces.specs.declared.layout.Word.{Word}
use Rattle.plan_types.specs.Machine.{is_piece, holds_of, no_number, with_piece, value_from, values_from}
use Rattle.vcd_out.specs.Changes.{widths_of, widths_of_vars}
use Rattle.sim_session.specs.Values.{zeros_of, put_word, put_words, is_short}

-- each variable's value, of those from a number on, with the words that are left
abbrev finish : ℕ → List Number → List Word → List ℕ → List Number
finish var [] words found = []
finish var (x ∷ xs) words found = value_from var x words found ∷ finish (suc var) xs words found

-- with one word
abbrev each : ℕ → List Number → Word → ℕ → List Number
each var [] word n = []
each var (x ∷ xs) word n = with_piece var x word n ∷ each (suc var) xs word n

finish_step : (var : ℕ) (xs : List Number) (word : Word) (words : List Word) (n : ℕ) (found : List ℕ) → finish var xs (word ∷ words) (n ∷ found) ≡ finish var (each var xs word n) words found
finish_step var [] word words n found = refl
finish_step var (x ∷ xs) word words n found = ap (λ (l : List Number). value_from var (with_piece var x word n) words found ∷ l) (finish_step (suc var) xs word words n found)

finish_words : (var : ℕ) (xs : List Number) (found : List ℕ) → finish var xs [] found ≡ xs
finish_words var [] found = refl
finish_words var (x ∷ xs) found = ap (λ (l : List Number). x ∷ l) (finish_words (suc var) xs found)

finish_found : (var : ℕ) (xs : List Number) (word : Word) (words : List Word) → finish var xs (word ∷ words) [] ≡ xs
finish_found var [] word words = refl
finish_found var (x ∷ xs) word words = ap (λ (l : List Number). x ∷ l) (finish_found (suc var) xs word words)

-- a word of no variable changes nothing
other : (var : ℕ) (x : Number) (word : Word) (n : ℕ) → holds_of var word ≡ false → with_piece var x word n ≡ x
other var x word n e = ap (λ (b : Bool). cond b (placed x (pos word.holds.bit) (kept word.len n)) x) e

each_none : (var : ℕ) (xs : List Number) (word : Word) (n : ℕ) → is_piece word ≡ false → each var xs word n ≡ xs
each_none var [] word n e = refl
each_none var (x ∷ xs) word n e =
    (λ i. other var x word n (ap (λ (b : Bool). b && (word.holds.item == var)) e) i ∷ each_none (suc var) xs word n e i)

differ : (a b : ℕ) → a < b → (a == b) ≡ false
differ a b h = grind arith

differ_up : (a b : ℕ) → b < a → (a == b) ≡ false
differ_up a b h = grind arith

and_false : (b : Bool) → (b && false) ≡ false
and_false true = refl
and_false false = refl

not_held : (var : ℕ) (word : Word) → (word.holds.item == var) ≡ false → holds_of var word ≡ false
not_held var word e = ap (λ (b : Bool). is_piece word && b) e ∙ and_false (is_piece word)

each_past : (var : ℕ) (xs : List Number) (word : Word) (n : ℕ) → word.holds.item < var → each var xs word n ≡ xs
each_past var [] word n h = refl
each_past var (x ∷ xs) word n h =
    (λ i. other var x word n (not_held var word (differ word.holds.item var h)) i ∷ each_past (suc var) xs word n (omega arith) i)

held : (var : ℕ) (word : Word) → is_piece word ≡ true → word.holds.item ≡ var → holds_of var word ≡ true
held var word e same = (λ i. e i && eq-eqb word.holds.item var same i)

each_at : (var j : ℕ) (xs : List Number) (word : Word) (n : ℕ) → is_piece word ≡ true → word.holds.item ≡ var + j
    → each var xs word n ≡ slice_set xs j (placed (slice_index_or xs j no_number) (pos word.holds.bit) (kept word.len n))
each_at var j [] word n e is = refl
each_at var zero (x ∷ xs) word n e is =
    (λ i. ap (λ (b : Bool). cond b (placed x (pos word.holds.bit) (kept word.len n)) x) (held var word e (omega (arith, is))) i ∷ each_past (suc var) xs word n (omega (arith, is)) i)
each_at var (suc j) (x ∷ xs) word n e is =
    (λ i. other var x word n (not_held var word (differ_up word.holds.item var (omega (arith, is)))) i ∷ each_at (suc var) j xs word n e (omega (arith, is)) i)

each_put : (xs : List Number) (word : Word) (n : ℕ) → put_word word n xs ≡ each 0 xs word n
each_put xs word n = by (is_piece word) refl
  where
    by : (b : Bool) → is_piece word ≡ b → cond b (slice_set xs word.holds.item (placed (slice_index_or xs word.holds.item no_number) (pos word.holds.bit) (kept word.len n))) xs ≡ each 0 xs word n
    by true e = sym (each_at 0 word.holds.item xs word n e (omega arith))
    by false e = sym (each_none 0 xs word n e)

put_finish : (words : List Word) (found : List ℕ) (xs : List Number) → put_words words found xs ≡ finish 0 xs words found
put_finish [] found xs = sym (finish_words 0 xs found)
put_finish (word ∷ words) [] xs = sym (finish_found 0 xs word words)
put_finish (word ∷ words) (n ∷ found) xs =
    put_finish words found (put_word word n xs) ∙ ap (λ (l : List Number). finish 0 l words found) (each_put xs word n) ∙ sym (finish_step 0 xs word words n found)

zero_is : (w : ℕ) → kept w 0 ≡ record { width = w; value = 0 }
zero_is w = same_number w (mod-eq_of_lt (pow_pos w))

from_zeros : (var : ℕ) (vars : List Var) (words : List Word) (found : List ℕ) → finish var (zeros_of vars) words found ≡ values_from var vars words found
from_zeros var [] words found = refl
from_zeros var (x ∷ vars) words found = (λ i. value_from var (zero_is x.width i) words found ∷ from_zeros (suc var) vars words found i)

-- the values are those of the variables
pub all_put : (vars : List Var) (words : List Word) (found : List ℕ) → put_words words found (zeros_of vars) ≡ values_from 0 vars words found
all_put vars words found = put_finish words found (zeros_of vars) ∙ from_zeros 0 vars words found

-- a turn of the loop over the words
pub put_step : (word : Word) (words : List Word) (found : List ℕ) (k v : ℕ) (xs : List Number) → k < length found → v ≡ slice_index found k
    → put_words words (drop (k + 1) found) (put_word word v xs) ≡ put_words (word ∷ words) (drop k found) xs
put_step word words found k v xs h e =
    (λ i. put_words words (drop (add-one k i) found) (put_word word (e i) xs)) ∙ sym (ap (λ (l : List ℕ). put_words (word ∷ words) l xs) (drop-cons found k 0 h))

-- ---- widths

piece_width : (var : ℕ) (x : Number) (word : Word) (n : ℕ) → (with_piece var x word n).width ≡ x.width
piece_width var x word n = by (holds_of var word)
  where
    by : (b : Bool) → (cond b (placed x (pos word.holds.bit) (kept word.len n)) x).width ≡ x.width
    by true = placed-width x (pos word.holds.bit) (kept word.len n)
    by false = refl

value_width : (var : ℕ) (x : Number) (words : List Word) (found : List ℕ) → (value_from var x words found).width ≡ x.width
value_width var x [] found = refl
value_width var x (word ∷ words) [] = refl
value_width var x (word ∷ words) (n ∷ found) = value_width var (with_piece var x word n) words found ∙ piece_width var x word n

pub values_width : (var : ℕ) (vars : List Var) (words : List Word) (found : List ℕ) → widths_of (values_from var vars words found) ≡ widths_of_vars vars
values_width var [] words found = refl
values_width var (x ∷ vars) words found = (λ i. value_width var (record { width = x.width; value = 0 }) words found i ∷ values_width (suc var) vars words found i)

-- a slice written back over the whole of a Vec is what the Vec then holds
pub spliced : {X : Type 0} (new old : List X) (len : ℕ) → length new ≡ length old → len ≡ length old → take len (new ++ drop (length new) old) ≡ new
spliced new old len same whole =
    ap (λ l. take len (new ++ l)) (drop_all (length new) old (omega arith)) ∙ ap (take len) (append-nil new) ∙ take_all len new (omega arith)

-- ---- a turn, as the code takes the words apart

tail_is : {A : Type 0} (x : A) (xs : List A) → take (length (x ∷ xs) - 1) (drop 1 (x ∷ xs)) ≡ xs
tail_is x xs = let e : length (x ∷ xs) - 1 ≡ length xs = omega arith in ap (λ (k : ℕ). take k xs) e ∙ take-length xs

pub one_fewer : {A : Type 0} (xs : List A) → 1 ≤ length xs → length (take (length xs - 1) (drop 1 xs)) + 1 ≡ length xs
one_fewer [] h = omega (arith, h)
one_fewer (x ∷ xs) h = ap (λ l. length l + 1) (tail_is x xs) ∙ omega arith

pub short_turn : (rest : List Word) → 1 ≤ length rest → list_all is_short rest ≡ true → list_all is_short (take (length rest - 1) (drop 1 rest)) ≡ true
short_turn [] h s = s
short_turn (w ∷ ws) h s = ap (list_all is_short) (tail_is w ws) ∙ (and_parts (is_short w) (list_all is_short ws) s).1

pub put_turn : (rest : List Word) (d : Word) (found : List ℕ) (k v : ℕ) (xs ys : List Number) → 1 ≤ length rest → k < length found → v ≡ slice_index found k → ys ≡ put_word (slice_index_or rest 0 d) v xs
    → put_words (take (length rest - 1) (drop 1 rest)) (drop (k + 1) found) ys ≡ put_words rest (drop k found) xs
put_turn [] d found k v xs ys h below e put = let none : ⊥ = omega (arith, h) in absurd none
put_turn (w ∷ ws) d found k v xs ys h below e put =
    (λ i. put_words (tail_is w ws i) (drop (k + 1) found) (put i)) ∙ put_step w ws found k v xs below e
