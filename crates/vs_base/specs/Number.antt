-- A value: a width, and a number below 2 to that width (IEEE 1800-2017 11.6 and 11.8).
use Rattle.std.specs.Prelude.{ℕ, ◌+◌, ◌-◌, ◌*◌, ◌/◌, ◌%◌, ◌^◌, ◌<◌, ◌≤◌, Bool, false, nat_lt, if◌then◌else◌, bit_and, ℤ, pos, negsuc, ◌-ℤ◌}
use Rattle.std.specs.Fmt.{digit_glyph}

pub record Number : Type 0 where
  pub width : ℕ
  pub value : ℕ

-- the numbers that a program can hold
pub record IsNumber (n : Number) : Type 0 where
  pub some : 1 ≤ n.width
  pub most : n.width ≤ 128
  pub fits : n.value < 2 ^ n.width

-- what is left of a number in so many bits
abbrev pub kept : ℕ → ℕ → Number
kept width value = record { width = width; value = value % 2 ^ width }

-- the number, less 2 ^ width where the top bit is 1 (11.8)
abbrev pub signed_reading : Number → ℤ
signed_reading n = if nat_lt n.value (2 ^ (n.width - 1)) then pos n.value else pos n.value -ℤ pos (2 ^ n.width)

-- the number, read with or without a sign
abbrev pub reading : Bool → Number → ℤ
reading signed n = if signed then signed_reading n else pos n.value

-- what is left of a whole number modulo m
abbrev pub residue : ℤ → ℕ → ℕ
residue (pos a) m = a % m
residue (negsuc a) m = m - 1 - a % m

-- the number of another width that has the same reading, modulo 2 ^ width (11.8.2)
abbrev pub extended : Number → ℕ → Bool → Number
extended n width signed = record { width = width; value = residue (reading signed n) (2 ^ width) }

-- the so many bits from place at on; bits outside are 0
abbrev pub sliced : Number → ℤ → ℕ → Number
sliced n (pos at) width = kept width (n.value / 2 ^ at)
sliced n (negsuc below) width = kept width (n.value * 2 ^ (below + 1))

-- the number with the part in place of its bits from place at on: what is below, the part, and what is above
abbrev pub overwritten : Number → ℕ → Number → Number
overwritten n at part = kept n.width (n.value % 2 ^ at + part.value * 2 ^ at + n.value / 2 ^ (at + part.width) * 2 ^ (at + part.width))

-- a part without its lowest bits
abbrev pub topmost : Number → ℕ → Number
topmost part gone = record { width = part.width - gone; value = part.value / 2 ^ gone }

-- the number with the part put at a place; bits of the part that fall outside are dropped
abbrev pub placed : Number → ℤ → Number → Number
placed n (pos at) part = overwritten n at part
placed n (negsuc below) part = overwritten n 0 (topmost part (below + 1))

-- the sum, modulo 2 ^ width (11.4.3)
abbrev pub added : Number → Number → Number
added a b = kept a.width (a.value + b.value)

-- a bit is 1 where it is 1 in both (11.4.8)
abbrev pub conjoined : Number → Number → Number
conjoined a b = kept a.width (bit_and a.value b.value)

-- the digits k places from the right, in ASCII
abbrev pub hex_digit_of : Number → ℕ → ℕ
hex_digit_of n k = digit_glyph false (n.value / 2 ^ (4 * k) % 16)

abbrev pub bin_digit_of : Number → ℕ → ℕ
bin_digit_of n k = digit_glyph false (n.value / 2 ^ k % 2)
