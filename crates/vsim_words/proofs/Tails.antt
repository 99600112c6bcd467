-- A list without its first element, as the code takes it apart.
use Rattle.std.proofs.Common.{◌≡◌, ℕ, ◌-◌, List, ◌∷◌, length, take, drop, ap, ◌∙◌, arith}
use Rattle.std.proofs.Math.Seq.{take-length}

pub tail_is : {A : Type 0} (x : A) (xs : List A) → take (length (x ∷ xs) - 1) (drop 1 (x ∷ xs)) ≡ xs
tail_is x xs = let e : length (x ∷ xs) - 1 ≡ length xs = omega arith in ap (λ (k : ℕ). take k xs) e ∙ take-length xs
