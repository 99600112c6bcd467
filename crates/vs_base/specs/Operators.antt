-- What the operators give, in whole numbers (IEEE 1800-2017 11.4 and 11.8). Operands of one width, unless it says otherwise.
use Rattle.std.specs.Prelude.{ℕ, zero, suc, ◌+◌, ◌-◌, ◌*◌, ◌^◌, ◌≤◌, Bool, not, ◌&&◌, ◌||◌, ◌==◌, if◌then◌else◌, bit_or, bit_xor, count_ones, ℤ, pos, neg_ℤ, ◌-ℤ◌, int_div, int_rem, int_lt, int_le}
use Rattle.std.specs.Int.{int_shr}
use Rattle.std.specs.Int.Count.{count_leading_zeros}
use Rattle.vs_base.specs.Number.{Number, kept, residue, reading}

-- what is left of a whole number in so many bits
abbrev pub wrapped : ℕ → ℤ → Number
wrapped width z = record { width = width; value = residue z (2 ^ width) }

-- the difference, the number with its sign turned and the product, modulo 2 ^ width (11.4.3)
abbrev pub subtracted : Number → Number → Number
subtracted a b = wrapped a.width (pos a.value -ℤ pos b.value)

abbrev pub negated : Number → Number
negated a = wrapped a.width (neg_ℤ (pos a.value))

abbrev pub multiplied : Number → Number → Number
multiplied a b = kept a.width (a.value * b.value)

-- the quotient of the readings, towards zero, modulo 2 ^ width; 0 where the divisor is 0 (11.4.3)
abbrev pub divided : Bool → Number → Number → Number
divided signed a b = if b.value == 0 then kept a.width 0 else wrapped a.width (int_div (reading signed a) (reading signed b))

-- the remainder of the readings, with the dividend's sign, modulo 2 ^ width; 0 where the divisor is 0 (11.4.3)
abbrev pub remaining : Bool → Number → Number → Number
remaining signed a b = if b.value == 0 then kept a.width 0 else wrapped a.width (int_rem (reading signed a) (reading signed b))

-- a bit is 1 where it is 1 in either, where it differs, where it is 0, and where it does not differ (11.4.8)
abbrev pub disjoined : Number → Number → Number
disjoined a b = kept a.width (bit_or a.value b.value)

abbrev pub differing : Number → Number → Number
differing a b = kept a.width (bit_xor a.value b.value)

abbrev pub inverted : Number → Number
inverted a = record { width = a.width; value = 2 ^ a.width - 1 - a.value }

abbrev pub agreeing : Number → Number → Number
agreeing a b = inverted (differing a b)

-- times 2 ^ count, modulo 2 ^ width (11.4.10)
abbrev pub shifted_left : Number → ℕ → Number
shifted_left a count = kept a.width (a.value * 2 ^ count)

-- the reading by 2 ^ count, rounded down: zeros come in at the top, and with a sign its sign bit (11.4.10)
abbrev pub shifted_right : Bool → Number → ℕ → Number
shifted_right signed a count = wrapped a.width (int_shr (reading signed a) count)

-- the bit of an answer
abbrev pub truth : Bool → Number
truth holds = record { width = 1; value = if holds then 1 else 0 }

-- comparisons of the readings (11.4.4 and 11.4.5)
abbrev pub less : Bool → Number → Number → Number
less signed a b = truth (int_lt (reading signed a) (reading signed b))

abbrev pub at_most : Bool → Number → Number → Number
at_most signed a b = truth (int_le (reading signed a) (reading signed b))

abbrev pub equal : Number → Number → Number
equal a b = truth (a.value == b.value)

abbrev pub unequal : Number → Number → Number
unequal a b = truth (not (a.value == b.value))

-- a number is true where it is not 0 (11.4.7); the other operand of a logical operator has any width
abbrev pub holds_true : Number → Bool
holds_true a = not (a.value == 0)

abbrev pub negation : Number → Number
negation a = truth (not (holds_true a))

abbrev pub conjunction : Number → Number → Number
conjunction a b = truth (holds_true a && holds_true b)

abbrev pub disjunction : Number → Number → Number
disjunction a b = truth (holds_true a || holds_true b)

-- all bits are 1, some bit is, and an odd number of them is (11.4.9)
abbrev pub all_ones : Number → Number
all_ones a = truth (a.value == 2 ^ a.width - 1)

abbrev pub some_one : Number → Number
some_one a = truth (not (a.value == 0))

abbrev pub odd_ones : Number → Number
odd_ones a = kept 1 (count_ones a.value)

-- the bits of both, those of the second below; of any widths (11.4.12)
abbrev pub joined : Number → Number → Number
joined a b = record { width = a.width + b.width; value = a.value * 2 ^ b.width + b.value }

-- so many times the same bits, joined (11.4.12.1)
unfoldable pub repeated : ℕ → Number → Number
repeated zero a = record { width = 0; value = 0 }
repeated (suc times) a = joined (repeated times a) a

-- the ceiling of the logarithm, in 32 bits: as many digits as one less has (20.8.1); it is `IsCeilingLog`
abbrev pub log_ceiling : Number → Number
log_ceiling n = kept 32 (128 - count_leading_zeros 128 (n.value - 1))

-- k is the least with 2 ^ k at least the number: the ceiling of its logarithm, and 0 for 0 (20.8.1)
pub record IsCeilingLog (n : Number) (k : ℕ) : Type 0 where
  pub reaches : n.value ≤ 2 ^ k
  pub least : (j : ℕ) → n.value ≤ 2 ^ j → k ≤ j
