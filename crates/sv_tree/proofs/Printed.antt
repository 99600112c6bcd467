-- How what was printed of the parts makes what was printed of the whole.
use Rattle.std.proofs.Common.{◌≡◌, ◌<◌, ◌≤◌, ℕ, suc, List, [], ◌∷◌, ◌++◌, length, drop, get_or, Option, Some, refl, sym, ap, ◌∙◌, append-nil}
use Rattle.std.proofs.Math.Seq.{drop-cons}
use Rattle.std.proofs.lemmas.List.{drop_all}
use Rattle.sv_tree.specs.TreeRead.{Tokens}
use Rattle.sv_tree.specs.Printed.{Appends}

pub appends_nothing : (old : Option Tokens) → Appends old (λ r. r) old
appends_nothing old = record { whole = λ now is. (now, is, λ r. refl) }

-- one part after another
infixr 20 ◌and◌
pub ◌and◌ : {a b c : Option Tokens} {p q : Tokens → Tokens} → Appends a p b → Appends b q c → Appends a (λ r. p (q r)) c
◌and◌ {q = q} x y = record {
  whole = λ now is.
      let last = y.whole now is in
      let first = x.whole last.0 last.1 in
      (first.0, first.1, λ r. last.2 r ∙ first.2 (q r));
}

-- of a list so many parts were printed: with the others the list is whole
pub record Prints {A : Type 0} (print : List A → Tokens → Tokens) (old : Option Tokens) (xs : List A) (i : ℕ) (new : Option Tokens) : Type 0 where
  pub whole : (now : Tokens) → new ≡ Some now → (before : Tokens) × (old ≡ Some before) × ((r : Tokens) → now ++ print (drop i xs) r ≡ before ++ print xs r)

pub prints_none : {A : Type 0} (print : List A → Tokens → Tokens) (old : Option Tokens) (xs : List A) → Prints print old xs 0 old
prints_none print old xs = record { whole = λ now is. (now, is, λ r. refl) }

pub prints_next : {A : Type 0} {print : List A → Tokens → Tokens} {old mid new : Option Tokens} {xs : List A} {i : ℕ} {p : Tokens → Tokens} (x : A)
    → i < length xs → x ≡ get_or xs i x → ((rest : List A) (r : Tokens) → print (x ∷ rest) r ≡ p (print rest r)) → Appends mid p new → Prints print old xs i mid → Prints print old xs (suc i) new
prints_next {print = print} {xs = xs} {i = i} x within is cons part sofar = record {
  whole = λ now has.
      let last = part.whole now has in
      let first = sofar.whole last.0 last.1 in
      let front : drop i xs ≡ x ∷ drop (suc i) xs = drop-cons xs i x within ∙ ap (λ y. y ∷ drop (suc i) xs) (sym is) in (
        first.0,
        first.1,
        λ r.
            last.2 (print (drop (suc i) xs) r) ∙ ap (λ ts. last.0 ++ ts) (sym (cons (drop (suc i) xs) r)) ∙ ap (λ l. last.0 ++ print l r) (sym front) ∙ first.2 r,
      );
}

pub prints_all : {A : Type 0} {print : List A → Tokens → Tokens} {old new : Option Tokens} {xs : List A} {i : ℕ} → ((r : Tokens) → print [] r ≡ r) → length xs ≤ i → Prints print old xs i new → Appends old (print xs) new
prints_all {print = print} {xs = xs} {i = i} nil done all = record {
  whole = λ now is.
      let w = all.whole now is in
      (w.0, w.1, λ r. ap (λ ts. now ++ ts) (sym (nil r)) ∙ ap (λ l. now ++ print l r) (sym (drop_all i xs done)) ∙ w.2 r);
}

-- what was printed from nothing on
pub printed_whole : {old new : Option Tokens} {print : Tokens → Tokens} (now : Tokens) → old ≡ Some [] → new ≡ Some now → Appends old print new → now ≡ print []
printed_whole {print = print} now start is h =
    let w = h.whole now is in
    let none : w.0 ≡ [] = some_same (sym w.1 ∙ start) in
    sym (append-nil now) ∙ w.2 [] ∙ ap (λ l. l ++ print []) none
  where
    some_same : {a b : Tokens} → Some a ≡ Some b → a ≡ b
    some_same e = cc
