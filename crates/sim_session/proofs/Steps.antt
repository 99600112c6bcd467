-- Steps of the loops that write texts.
use Rattle.std.proofs.Common.{◌≡◌, ℕ, suc, ◌+◌, ◌-◌, ◌/◌, List, [], ◌∷◌, ◌++◌, length, take, drop, ap, sym, ◌∙◌, append_assoc, arith}
use Rattle.std.specs.Int.{div_ceil}
use Rattle.std.proofs.Math.Seq.{take-length}
use Rattle.vs_base.specs.Number.{Number, hex_digit_of}
use Rattle.sim_session.specs.Lines.{hex_of}

-- one hexadecimal digit more
pub hex_step : (out : List ℕ) (left j d : ℕ) (v : Number) → left ≡ suc j → d ≡ hex_digit_of v j → (out ++ d ∷ []) ++ hex_of j v ≡ out ++ hex_of left v
hex_step out left j d v is digit =
    append_assoc out (d ∷ []) (hex_of j v) ∙ ap (λ (c : ℕ). out ++ (c ∷ hex_of j v)) digit ∙ ap (λ (k : ℕ). out ++ hex_of k v) (sym is)

-- a quarter, rounded up
pub quarter_up : (n : ℕ) → div_ceil n 4 ≡ (n + 3) / 4
quarter_up n = omega arith

-- a list without its first element, as the code takes it apart
pub tail_is : {A : Type 0} (x : A) (xs : List A) → take (length (x ∷ xs) - 1) (drop 1 (x ∷ xs)) ≡ xs
tail_is x xs = let e : length (x ∷ xs) - 1 ≡ length xs = omega arith in ap (λ (k : ℕ). take k xs) e ∙ take-length xs
