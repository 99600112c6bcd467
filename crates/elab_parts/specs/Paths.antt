-- The paths of scopes (IEEE 1800-2017 23.6, 27.4, 27.6), as bytes.
use Rattle.std.specs.Prelude.{ℕ, ℤ, List, ◌++◌, replicate, codes, decimal}
use Rattle.std.specs.Fmt.{signed_decimal}

-- OUTER.SEGMENT
abbrev pub inner_path : List ℕ → List ℕ → List ℕ
inner_path outer segment = outer ++ (codes "." ++ segment)

-- NAME[i], with `-` before the digits of a negative i
abbrev pub turn_name : List ℕ → ℤ → List ℕ
turn_name name i = name ++ (codes "[" ++ (signed_decimal i ++ codes "]"))

abbrev pub zero_digit : ℕ
zero_digit = 48

-- genblkN, with so many zeros before the number
abbrev pub block_number : ℕ → ℕ → List ℕ
block_number zeros number = codes "genblk" ++ (replicate zeros zero_digit ++ decimal number)
