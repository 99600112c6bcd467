-- The first number that passes a test.
use Rattle.std.proofs.Common.{◌≡◌, ◌+◌, ◌<◌, ◌≤◌, ℕ, zero, suc, Bool, true, false, cond, Option, Some, None, refl, sym, ap, subst, ◌∙◌, inl, inr, ◌⊎◌, arith}
use Rattle.std.proofs.lemmas.Bool.{cases_eq, cases_Bool}
use Rattle.order_levels.specs.Settling.{first_from, first_below}

pub first_from_some : (p : ℕ → Bool) (at many n : ℕ) → at ≤ n → n < at + many → p n ≡ true → ((m : ℕ) → at ≤ m → m < n → p m ≡ false) → first_from p at many ≡ Some n
first_from_some p at zero n low high here before = absurd (omega arith)
first_from_some p at (suc many) n low high here before =
    by_place (λ (other : at ≡ n → ⊥). first_from_some p (suc at) many n (omega arith) (omega arith) here (λ m after less. before m (omega arith) less)) (cases_eq at n)
  where
    by_place : ((at ≡ n → ⊥) → first_from p (suc at) many ≡ Some n) → (at ≡ n) ⊎ (at ≡ n → ⊥) → cond (p at) (Some at) (first_from p (suc at) many) ≡ Some n
    by_place further (inl e) = ap (λ (b : Bool). cond b (Some at) (first_from p (suc at) many)) (ap p e ∙ here) ∙ ap Some e
    by_place further (inr other) =
        ap (λ (b : Bool). cond b (Some at) (first_from p (suc at) many)) (before at (omega arith) (omega arith)) ∙ further other

pub first_from_none : (p : ℕ → Bool) (at many : ℕ) → ((m : ℕ) → at ≤ m → m < at + many → p m ≡ false) → first_from p at many ≡ None
first_from_none p at zero none = refl
first_from_none p at (suc many) none =
    ap (λ (b : Bool). cond b (Some at) (first_from p (suc at) many)) (none at (omega arith) (omega arith))
    ∙ first_from_none p (suc at) many (λ m after less. none m (omega arith) (omega arith))

pub first_some : (p : ℕ → Bool) (many n : ℕ) → n < many → p n ≡ true → ((m : ℕ) → m < n → p m ≡ false) → first_below p many ≡ Some n
first_some p many n high here before = first_from_some p 0 many n (omega arith) (omega arith) here (λ m _ less. before m less)

pub first_none : (p : ℕ → Bool) (many : ℕ) → ((m : ℕ) → m < many → p m ≡ false) → first_below p many ≡ None
first_none p many none = first_from_none p 0 many (λ m _ less. none m (omega arith))

-- two tests that agree below a number
from_agree : (p q : ℕ → Bool) (at many : ℕ) → ((m : ℕ) → at ≤ m → m < at + many → p m ≡ q m) → first_from p at many ≡ first_from q at many
from_agree p q at zero agree = refl
from_agree p q at (suc many) agree =
    let here = agree at (omega arith) (omega arith) in
    let others = from_agree p q (suc at) many (λ m low high. agree m (omega arith) (omega arith)) in
    λ i. cond (here i) (Some at) (others i)

pub first_agree : {p q : ℕ → Bool} (many : ℕ) → ((m : ℕ) → m < many → p m ≡ q m) → first_below p many ≡ first_below q many
first_agree {p} {q} many agree = from_agree p q 0 many (λ m _ less. agree m (omega arith))

-- what the answer tells
abbrev pub TellsFirst : (ℕ → Bool) → ℕ → ℕ → Option ℕ → Type 0
TellsFirst p at many None = (m : ℕ) → at ≤ m → m < at + many → p m ≡ false
TellsFirst p at many (Some n) = (at ≤ n) × (n < at + many) × (p n ≡ true) × ((m : ℕ) → at ≤ m → m < n → p m ≡ false)

pub first_tells : (p : ℕ → Bool) (at many : ℕ) → TellsFirst p at many (first_from p at many)
first_tells p at zero = λ m low high. absurd (omega arith)
first_tells p at (suc many) = by_test (first_tells p (suc at) many) (cases_Bool (p at))
  where
    further : p at ≡ false → (o : Option ℕ) → TellsFirst p (suc at) many o → TellsFirst p at (suc many) o
    further not_here None none = λ m low high. by_place m low high (cases_eq at m)
      where
        by_place : (m : ℕ) → at ≤ m → m < at + suc many → (at ≡ m) ⊎ (at ≡ m → ⊥) → p m ≡ false
        by_place m low high (inl e) = ap p (sym e) ∙ not_here
        by_place m low high (inr other) = none m (omega arith) (omega arith)
    further not_here (Some n) some = (omega arith, omega arith, some.2, λ m low less. by_place m low less (cases_eq at m))
      where
        by_place : (m : ℕ) → at ≤ m → m < n → (at ≡ m) ⊎ (at ≡ m → ⊥) → p m ≡ false
        by_place m low less (inl e) = ap p (sym e) ∙ not_here
        by_place m low less (inr other) = some.3 m (omega arith) less

    by_test : TellsFirst p (suc at) many (first_from p (suc at) many) → (p at ≡ true) ⊎ (p at ≡ false) → TellsFirst p at (suc many) (cond (p at) (Some at) (first_from p (suc at) many))
    by_test rest (inl e) = subst_test (sym e) (omega arith, omega arith, e, λ m low less. absurd (omega arith))
      where
        subst_test : true ≡ p at → TellsFirst p at (suc many) (Some at) → TellsFirst p at (suc many) (cond (p at) (Some at) (first_from p (suc at) many))
        subst_test is h = subst (λ (b : Bool). TellsFirst p at (suc many) (cond b (Some at) (first_from p (suc at) many))) is h
    by_test rest (inr e) = subst_test (sym e) (further e (first_from p (suc at) many) rest)
      where
        subst_test : false ≡ p at → TellsFirst p at (suc many) (first_from p (suc at) many) → TellsFirst p at (suc many) (cond (p at) (Some at) (first_from p (suc at) many))
        subst_test is h = subst (λ (b : Bool). TellsFirst p at (suc many) (cond b (Some at) (first_from p (suc at) many))) is h

-- a number that is found passes, and none before it
pub found : (p : ℕ → Bool) (many n : ℕ) → first_below p many ≡ Some n → (n < many) × (p n ≡ true) × ((m : ℕ) → m < n → p m ≡ false)
found p many n is =
    let tells = subst (λ (o : Option ℕ). TellsFirst p 0 many o) is (first_tells p 0 many) in
    (omega (arith, tells.1), tells.2, λ m less. tells.3 m (omega arith) less)

pub not_found : (p : ℕ → Bool) (many m : ℕ) → first_below p many ≡ None → m < many → p m ≡ false
not_found p many m is less =
    let tells = subst (λ (o : Option ℕ). TellsFirst p 0 many o) is (first_tells p 0 many) in
    tells m (omega arith) (omega arith)
