-- Digits are written, one by one.
use Rattle.std.proofs.Common.{◌≡◌, ℕ, suc, List, [], ◌∷◌, ◌++◌, sym, ◌∙◌, ap, append_assoc}
use Rattle.vs_base.specs.Number.{Number, bin_digit_of}
use Rattle.vcd_out.specs.Values.{digits_of}

pub digit_added : (text : List ℕ) (n : Number) (left k : ℕ) → left ≡ suc k → (text ++ bin_digit_of n k ∷ []) ++ digits_of k n ≡ text ++ digits_of left n
digit_added text n left k e = append_assoc text (bin_digit_of n k ∷ []) (digits_of k n) ∙ ap (λ (m : ℕ). text ++ digits_of m n) (sym e)
