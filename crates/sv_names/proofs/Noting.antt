-- How what is noted of the parts makes what is noted of the whole.
use Rattle.std.proofs.Common.{◌≡◌, ◌<◌, ℕ, suc, List, ◌∷◌, length, drop, get_or, map, Option, Some, refl, sym, ap, ◌∙◌}
use Rattle.std.proofs.Math.Seq.{drop-cons}
use Rattle.sv_names.specs.Noted.{Noted, Notes, Adds, in_order}

pub adds_nothing : (old : Option Noted) → Adds old (λ n. n) old
adds_nothing old = record { whole = λ now is. (now, is, refl) }

-- one part after another
infixr 20 ◌and◌
pub ◌and◌ : {a b c : Option Noted} {p q : Notes} → Adds a p b → Adds b q c → Adds a (λ n. q (p n)) c
◌and◌ {q = q} x y = record {
  whole = λ now is.
      let last = y.whole now is in
      let first = x.whole last.0 last.1 in
      (first.0, first.1, last.2 ∙ ap q first.2);
}

-- of a list so many parts are noted: with the others the list is whole
pub record Added {A : Type 0} (notes : A → Notes) (old : Option Noted) (xs : List A) (i : ℕ) (new : Option Noted) : Type 0 where
  pub whole : (now : Noted) → new ≡ Some now → (before : Noted) × (old ≡ Some before) × (in_order (map notes (drop i xs)) now ≡ in_order (map notes xs) before)

pub added_next : {A : Type 0} {notes : A → Notes} {old mid new : Option Noted} {xs : List A} {i : ℕ} (x : A)
    → i < length xs → x ≡ get_or xs i x → Adds mid (notes x) new → Added notes old xs i mid → Added notes old xs (suc i) new
added_next {notes = notes} {xs = xs} {i = i} x within is part sofar = record {
  whole = λ now has.
      let last = part.whole now has in
      let first = sofar.whole last.0 last.1 in
      let front : drop i xs ≡ x ∷ drop (suc i) xs = drop-cons xs i x within ∙ ap (λ y. y ∷ drop (suc i) xs) (sym is) in
      (first.0, first.1, ap (λ n. in_order (map notes (drop (suc i) xs)) n) last.2 ∙ sym (ap (λ l. in_order (map notes l) last.0) front) ∙ first.2);
}
