-- Of a list so many parts are noted: with the others the list is whole.
use Rattle.std.proofs.Common.{◌≡◌, ◌<◌, ◌+◌, ℕ, suc, arith, List, ◌∷◌, length, drop, get_or, map, sym, ap, ◌∙◌}
use Rattle.std.proofs.Math.Seq.{drop-cons}
use Rattle.rtl_pieces.specs.declared.range.BitRange.{BitRange}
use Rattle.rtl_pieces.specs.Reads.{Notes, in_order}

front : {A : Type 0} (x : A) (xs : List A) (i : ℕ) → i < length xs → x ≡ get_or xs i x → drop i xs ≡ x ∷ drop (suc i) xs
front x xs i within is = drop-cons xs i x within ∙ ap (λ y. y ∷ drop (suc i) xs) (sym is)

pub noted_next : {A : Type 0} (notes : A → Notes) (x : A) (xs : List A) (i : ℕ) (old mid new : List BitRange)
    → i < length xs → x ≡ get_or xs i x → new ≡ notes x mid
    → in_order (map notes (drop i xs)) mid ≡ in_order (map notes xs) old
    → in_order (map notes (drop (i + 1) xs)) new ≡ in_order (map notes xs) old
noted_next notes x xs i old mid new within is part sofar =
    let s : i + 1 ≡ suc i = omega arith in
    ap (λ (n : ℕ). in_order (map notes (drop n xs)) new) s
    ∙ ap (in_order (map notes (drop (suc i) xs))) part ∙ sym (ap (λ l. in_order (map notes l) mid) (front x xs i within is)) ∙ sofar
