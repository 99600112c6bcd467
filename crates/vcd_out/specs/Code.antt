-- The codes of variables (IEEE 1800-2017 21.7.2.1: characters from ! to ~).
use Rattle.std.specs.Prelude.{ℕ, zero, suc, ◌+◌, ◌-◌, ◌/◌, ◌%◌, List, [], ◌∷◌, nat_lt, if◌then◌else◌}

-- of at most so many characters
abbrev pub code_within : ℕ → ℕ → List ℕ
code_within zero k = []
code_within (suc most) k = (33 + k % 94) ∷ (if nat_lt k 94 then [] else code_within most (k / 94 - 1))

-- the character 33 + k modulo 94, and from 94 on the code of k / 94 - 1 after it
unfoldable pub code_of : ℕ → List ℕ
code_of k = code_within (suc k) k
