-- A number only grows as its digits are read.
use Rattle.std.proofs.Common.{◌≡◌, ◌≤◌, ℕ, ◌+◌, ◌*◌, ◌^◌, Bool, true, false, cond, ◌&&◌, ◌||◌, ◌==◌, ◌⊎◌, inl, inr, [], ◌∷◌, length, get_or, refl, ap, arith}
use Rattle.std.specs.List.{list_any}
use Rattle.sv_lex.specs.Spelling.{Bytes}
use Rattle.sv_lex.specs.Number.{digit, value, each_digit, is_small, is_no_underscore}
use Rattle.sv_lex.proofs.Greatest.{which}

more_by : (base sum d : ℕ) → 1 ≤ base → sum ≤ sum * base + d
more_by base sum d h = grind arith

pub value_grows : (base sum : ℕ) (t : Bytes) → 1 ≤ base → sum ≤ value base sum t
value_grows base sum [] h = omega arith
value_grows base sum (b ∷ t) h = by (which (b == 95)) (value_grows base sum t h) (value_grows base (sum * base + digit b) t h) (more_by base sum (digit b) h)
  where
    by : ((b == 95) ≡ true) ⊎ ((b == 95) ≡ false) → sum ≤ value base sum t → sum * base + digit b ≤ value base (sum * base + digit b) t → sum ≤ sum * base + digit b → sum ≤ value base sum (b ∷ t)
    by (inl e) same more less = rw e same
    by (inr e) same more less = rw e (omega arith)

not_small : (n : ℕ) → 2 ^ 128 ≤ n → is_small n ≡ false
not_small n h = grind arith

and_false : (a b c : Bool) → c ≡ false → (a && b && c) ≡ false
and_false true true c e = e
and_false true false c e = refl
and_false false b c e = refl

pub too_big : (some : Bool) (base sum : ℕ) (rest : Bytes) → 1 ≤ length rest → (get_or rest 0 0 == 95) ≡ false → 1 ≤ base → 2 ^ 128 ≤ sum * base + digit (get_or rest 0 0)
    → ((some || list_any is_no_underscore rest) && each_digit base rest && is_small (value base sum rest)) ≡ false
too_big some base sum [] l plain h big = absurd (omega arith)
too_big some base sum (b ∷ t) l plain h big =
    let grown = value_grows base (sum * base + digit b) t h in
    let is : value base sum (b ∷ t) ≡ value base (sum * base + digit b) t = ap (λ c. cond c (value base sum t) (value base (sum * base + digit b) t)) plain in
    and_false (some || list_any is_no_underscore (b ∷ t)) (each_digit base (b ∷ t)) (is_small (value base sum (b ∷ t))) (not_small (value base sum (b ∷ t)) (omega (arith, is, grown)))
