-- The lines of values (IEEE 1800-2017 21.7.2.2).
use Rattle.std.specs.Prelude.{ℕ, zero, suc, ◌==◌, List, [], ◌∷◌, ◌++◌, codes, if◌then◌else◌}
use Rattle.vs_base.specs.Number.{Number, bin_digit_of}
use Rattle.vcd_out.specs.Code.{code_of}

-- the lowest so many binary digits
abbrev pub digits_of : ℕ → Number → List ℕ
digits_of zero n = []
digits_of (suc k) n = bin_digit_of n k ∷ digits_of k n

-- the digit of one bit; or all digits, with b before them and a space after them
abbrev pub value_text : Number → List ℕ
value_text n = if n.width == 1 then bin_digit_of n 0 ∷ [] else codes "b" ++ (digits_of n.width n ++ codes " ")

-- a value of the variable that stands after so many others
abbrev pub value_line : ℕ → Number → List ℕ
value_line k n = value_text n ++ (code_of k ++ codes "\n")
