-- The definitions of values, worked out at small numbers.
use Rattle.std.proofs.Common.{◌≡◌, true, false, refl, pos, negsuc}
use Rattle.vs_base.specs.Number.{Number, kept, signed_reading, extended, sliced, placed, added, conjoined, hex_digit_of, bin_digit_of}

-- 12 in 4 bits and 8 in 4 bits, which reads -8 with a sign
abbrev twelve : Number
twelve = record { width = 4; value = 12 }

abbrev eight : Number
eight = record { width = 4; value = 8 }

abbrev ones : Number
ones = record { width = 8; value = 255 }

kept_300 : kept 8 300 ≡ kept 8 44
kept_300 = refl

signed_8 : signed_reading eight ≡ negsuc 7
signed_8 = refl

signed_255 : signed_reading ones ≡ negsuc 0
signed_255 = refl

extended_with_sign : extended eight 8 true ≡ kept 8 0xf8
extended_with_sign = refl

extended_without : extended eight 8 false ≡ kept 8 8
extended_without = refl

extended_to_less : extended ones 3 true ≡ kept 3 7
extended_to_less = refl

-- bits 2 to 5 of 4'b1100 are 0011, bits -2 to 1 are 0000, bits -1 to 4 are 011000
sliced_above_top : sliced twelve (pos 2) 4 ≡ kept 4 3
sliced_above_top = refl

sliced_below : sliced twelve (negsuc 1) 4 ≡ kept 4 0
sliced_below = refl

sliced_wide : sliced twelve (negsuc 0) 6 ≡ kept 6 24
sliced_wide = refl

-- 8'b11111111 with 4'b1000 at places 2, 6, -1 and -4
placed_inside : placed ones (pos 2) eight ≡ kept 8 0xe3
placed_inside = refl

placed_over_top : placed ones (pos 6) eight ≡ kept 8 0x3f
placed_over_top = refl

placed_under : placed ones (negsuc 0) eight ≡ kept 8 0xfc
placed_under = refl

placed_outside : placed ones (negsuc 3) eight ≡ ones
placed_outside = refl

added_8_12 : added eight twelve ≡ kept 4 4
added_8_12 = refl

conjoined_8_12 : conjoined eight twelve ≡ eight
conjoined_8_12 = refl

hex_digit_high : hex_digit_of (kept 8 0xa5) 1 ≡ 0x61
hex_digit_high = refl

bin_digit_low : bin_digit_of (kept 8 0xa5) 1 ≡ 0x30
bin_digit_low = refl
