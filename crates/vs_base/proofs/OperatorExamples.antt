-- The definitions of operators, worked out at small numbers.
use Rattle.std.proofs.Common.{◌≡◌, true, false, refl}
use Rattle.vs_base.specs.Number.{Number, kept}
use Rattle.vs_base.specs.Operators.{subtracted, negated, multiplied, divided, remaining, disjoined, differing, inverted, agreeing, shifted_left, shifted_right, less, at_most, equal, conjunction, all_ones, joined, repeated, log_ceiling}
use Rattle.std.specs.Int.Count.{count_leading_zeros}

-- -7, 2 and 5 in 32 bits, and -128 and -1 in 8 bits
abbrev less_seven : Number
less_seven = kept 32 0xfffffff9

abbrev two : Number
two = kept 32 2

abbrev least : Number
least = kept 8 0x80

abbrev less_one : Number
less_one = kept 8 0xff

subtracted_wraps : subtracted (kept 4 3) (kept 4 5) ≡ kept 4 14
subtracted_wraps = refl

negated_least : negated least ≡ least
negated_least = refl

multiplied_wraps : multiplied (kept 4 7) (kept 4 5) ≡ kept 4 3
multiplied_wraps = refl

-- -7 / 2 is -3, and -7 % 2 is -1; 5 % 0 is 0; -128 / -1 is -128 in 8 bits
divided_to_zero : divided true less_seven two ≡ kept 32 0xfffffffd
divided_to_zero = refl

remaining_signed : remaining true less_seven two ≡ kept 32 0xffffffff
remaining_signed = refl

remaining_by_zero : remaining true (kept 32 5) (kept 32 0) ≡ kept 32 0
remaining_by_zero = refl

divided_least : divided true least less_one ≡ least
divided_least = refl

divided_unsigned : divided false less_one (kept 8 2) ≡ kept 8 0x7f
divided_unsigned = refl

bits_of_5_and_3 : agreeing (kept 4 5) (kept 4 3) ≡ inverted (differing (kept 4 5) (kept 4 3))
bits_of_5_and_3 = refl

differing_5_3 : differing (kept 4 5) (kept 4 3) ≡ kept 4 6
differing_5_3 = refl

disjoined_5_3 : disjoined (kept 4 5) (kept 4 3) ≡ kept 4 7
disjoined_5_3 = refl

inverted_5 : inverted (kept 4 5) ≡ kept 4 10
inverted_5 = refl

-- 3'b101 >>> 1 is 2, and 3'sb101 >>> 1 is 6
shifted_unsigned : shifted_right false (kept 3 5) 1 ≡ kept 3 2
shifted_unsigned = refl

shifted_signed : shifted_right true (kept 3 5) 1 ≡ kept 3 6
shifted_signed = refl

shifted_out : shifted_left (kept 4 15) 9 ≡ kept 4 0
shifted_out = refl

-- -1 < 0 with a sign, and not without
less_signed : less true (kept 8 0xff) (kept 8 0) ≡ kept 1 1
less_signed = refl

less_unsigned : less false (kept 8 0xff) (kept 8 0) ≡ kept 1 0
less_unsigned = refl

at_most_itself : at_most true least least ≡ kept 1 1
at_most_itself = refl

equal_not : equal (kept 4 3) (kept 4 2) ≡ kept 1 0
equal_not = refl

conjunction_of_widths : conjunction (kept 4 3) (kept 8 0) ≡ kept 1 0
conjunction_of_widths = refl

all_ones_4 : all_ones (kept 4 15) ≡ kept 1 1
all_ones_4 = refl

-- {2'b10, 3'b101} is 5'b10101, and {2{3'b101}} is 6'h2d
joined_bits : joined (kept 2 2) (kept 3 5) ≡ kept 5 21
joined_bits = refl

repeated_twice : repeated 2 (kept 3 5) ≡ kept 6 0x2d
unfolding repeated
repeated_twice = refl

-- $clog2(9) is 4, and 0 for 0
log_of_9 : log_ceiling (kept 32 9) ≡ kept 32 4
unfolding count_leading_zeros
log_of_9 = refl

log_of_0 : log_ceiling (kept 32 0) ≡ kept 32 0
unfolding count_leading_zeros
log_of_0 = refl
