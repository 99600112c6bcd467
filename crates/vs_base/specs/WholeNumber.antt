-- Whole numbers, and those that 64 bits with a sign can hold.
use Rattle.std.specs.Prelude.{ℕ, ◌-◌, ◌^◌, Bool, ◌&&◌, if◌then◌else◌, Option, Some, None, ℤ, pos, neg_ℤ, int_lt, int_le}

-- a number of its sign and its magnitude
abbrev pub with_sign : Bool → ℕ → ℤ
with_sign negative magnitude = if negative then neg_ℤ (pos magnitude) else pos magnitude

abbrev pub least_word : ℤ
least_word = neg_ℤ (pos (2 ^ 63))

abbrev pub greatest_word : ℤ
greatest_word = pos (2 ^ 63 - 1)

-- the number, where 64 bits with a sign can hold it
abbrev pub in_word : ℤ → Option ℤ
in_word z = if int_le least_word z && int_le z greatest_word then Some z else None

-- the number that is nearest among those that 64 bits with a sign can hold
abbrev pub nearest : ℤ → ℤ
nearest z = if int_lt z least_word then least_word else (if int_lt greatest_word z then greatest_word else z)
