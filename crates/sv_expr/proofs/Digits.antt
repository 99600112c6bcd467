-- Numbers as their digits are read.
use Rattle.std.proofs.Common.{◌≡◌, ◌≤◌, ℕ, ◌+◌, ◌*◌, ◌%◌, Bool, true, false, cond, ◌==◌, ◌⊎◌, inl, inr, [], ◌∷◌, length, get_or, take, drop, ◌-◌, nat_lt, refl, sym, ap, ◌∙◌, arith}
use Rattle.std.proofs.lemmas.Bool.{le-ltb}
use Rattle.std.proofs.lemmas.Grind.{common_steps}
use Rattle.std.proofs.lemmas.Nat.{mul-mod_first}
use Rattle.std.proofs.Math.Nat.{mod-add-mod, mod-mod}
use Rattle.sv_lex.specs.Spelling.{Bytes}
use Rattle.sv_lex.specs.Number.{digit, value}

which : (b : Bool) → (b ≡ true) ⊎ (b ≡ false)
which true = inl refl
which false = inr refl

more_by : (base sum d : ℕ) → 1 ≤ base → sum ≤ sum * base + d
more_by base sum d h = grind arith

-- a number only grows as its digits are read
pub value_grows : (base sum : ℕ) (t : Bytes) → 1 ≤ base → sum ≤ value base sum t
value_grows base sum [] h = omega arith
value_grows base sum (b ∷ t) h = by (which (b == 95)) (value_grows base sum t h) (value_grows base (sum * base + digit b) t h) (more_by base sum (digit b) h)
  where
    by : ((b == 95) ≡ true) ⊎ ((b == 95) ≡ false) → sum ≤ value base sum t → sum * base + digit b ≤ value base (sum * base + digit b) t → sum ≤ sum * base + digit b → sum ≤ value base sum (b ∷ t)
    by (inl e) same more less = rw e same
    by (inr e) same more less = rw e (omega arith)

-- and so it is too long where what was read of it is
pub too_long : (base sum limit : ℕ) (t : Bytes) → 1 ≤ length t → (get_or t 0 0 == 95) ≡ false → 1 ≤ base → limit ≤ sum * base + digit (get_or t 0 0) → nat_lt (value base sum t) limit ≡ false
too_long base sum limit [] l plain h big = absurd (omega arith)
too_long base sum limit (b ∷ t) l plain h big =
    let grown = value_grows base (sum * base + digit b) t h in
    let is : value base sum (b ∷ t) ≡ value base (sum * base + digit b) t = ap (λ c. cond c (value base sum t) (value base (sum * base + digit b) t)) plain in
    let over : limit ≤ value base sum (b ∷ t) = omega (arith, is, grown) in
    le-ltb (value base sum (b ∷ t)) limit over

-- modulo m a number looks at what was read modulo m
pub value_modulo : (base m a b : ℕ) (t : Bytes) → a % m ≡ b % m → value base a t % m ≡ value base b t % m
value_modulo base m a b [] e = e
value_modulo base m a b (x ∷ t) e = by (which (x == 95)) (value_modulo base m a b t e) (value_modulo base m (a * base + digit x) (b * base + digit x) t same)
  where
    once : (n : ℕ) → (n * base + digit x) % m ≡ (n % m * base % m + digit x) % m
    once n = sym (mod-add-mod (n * base) m (digit x)) ∙ ap (λ (k : ℕ). (k + digit x) % m) (sym (mul-mod_first n base m))

    same : (a * base + digit x) % m ≡ (b * base + digit x) % m
    same = once a ∙ ap (λ (k : ℕ). (k * base % m + digit x) % m) e ∙ sym (once b)

    by : ((x == 95) ≡ true) ⊎ ((x == 95) ≡ false) → value base a t % m ≡ value base b t % m → value base (a * base + digit x) t % m ≡ value base (b * base + digit x) t % m → value base a (x ∷ t) % m ≡ value base b (x ∷ t) % m
    by (inl c) skip more = rw c skip
    by (inr c) skip more = rw c more

-- a digit read modulo m
pub turn : (base sum m : ℕ) (t : Bytes) → 1 ≤ length t → (get_or t 0 0 == 95) ≡ false → value base ((sum * base + digit (get_or t 0 0)) % m) (take (length t - 1) (drop 1 t)) % m ≡ value base sum t % m
turn base sum m [] l plain = absurd (omega arith)
turn base sum m (b ∷ t) l plain =
    let is : value base sum (b ∷ t) ≡ value base (sum * base + digit b) t = ap (λ c. cond c (value base sum t) (value base (sum * base + digit b) t)) plain in
    let all : take (length (b ∷ t) - 1) (drop 1 (b ∷ t)) ≡ t = grind (arith, common_steps) in
    ap (λ (s : Bytes). value base ((sum * base + digit b) % m) s % m) all ∙ value_modulo base m ((sum * base + digit b) % m) (sum * base + digit b) t (mod-mod (sum * base + digit b) m) ∙ ap (λ (k : ℕ). k % m) (sym is)
