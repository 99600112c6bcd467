-- Small cases, worked out.
use Rattle.std.proofs.Common.{◌≡◌, ℕ, true, false, [], ◌∷◌, Some, None, pos, negsuc, refl}
use Rattle.std.specs.Prelude.{◌||◌, ◌&&◌, ◌==◌, if◌then◌else◌, nat_le, nat_lt, Option}
use Rattle.rtl_pieces.specs.declared.range.BitRange.{BitRange}
use Rattle.rtl_pieces.specs.declared.item.Item.{Item}
use Rattle.rtl_pieces.specs.declared.pieces.Piece.{Piece}
use Rattle.rtl_pieces.specs.declared.owned.OwnedRange.{OwnedRange}
use Rattle.rtl_pieces.specs.Line.{has}
use Rattle.rtl_pieces.specs.Named.{nothing, clipped, named_bits, whole_item}
use Rattle.rtl_pieces.specs.Ranges.{empty, merged, minus}
use Rattle.rtl_pieces.specs.Owned.{sweep}
use Rattle.rtl_pieces.specs.Words.{begins, is_cut, pieces_from}

abbrev r : ℕ → ℕ → BitRange
r from to = record { from = from; to = to }

-- ---- `v[4:2]`, `v[9:6]`, `v[1:-1]` and `v[9]` of `logic [7:0] v`, whose bits stand from place 10 on

three_bits : clipped 10 8 (pos 2) 3 ≡ r 12 15
three_bits = refl

the_upper_two_are_out_of_range : clipped 10 8 (pos 6) 4 ≡ r 16 18
the_upper_two_are_out_of_range = refl

the_lowest_is_out_of_range : clipped 10 8 (negsuc 0) 3 ≡ r 10 12
the_lowest_is_out_of_range = refl

no_bit_has_number_9 : has 19 (clipped 10 8 (pos 9) 1 ∷ []) ≡ false
no_bit_has_number_9 = refl

-- ---- `logic [15:0] m [-1:2]`, whose bits stand from place 100 on

abbrev m : Item
m = record { first = 100; elements = 4; width = 16; lsb = 0; low = negsuc 0 }

element_at_0 : named_bits m (pos 0) None ≡ r 116 132
element_at_0 = refl

no_element_at_3 : named_bits m (pos 3) None ≡ nothing
no_element_at_3 = refl

-- `m[-1][7 -: 4]`
four_bits_down : named_bits m (negsuc 0) (Some (record { at = pos 7; width = 4; down = true })) ≡ r 104 108
four_bits_down = refl

all_of_it : whole_item m ≡ r 100 164
all_of_it = refl

-- ---- sets

neighbours_join : merged empty (r 0 2 ∷ r 2 4 ∷ r 6 8 ∷ []) ≡ r 0 4 ∷ r 6 8 ∷ []
neighbours_join = refl

what_is_inside_adds_nothing : merged empty (r 1 9 ∷ r 2 4 ∷ r 3 3 ∷ []) ≡ r 1 9 ∷ []
what_is_inside_adds_nothing = refl

what_is_written_is_not_read : minus (r 0 8 ∷ []) (r 2 3 ∷ r 5 9 ∷ []) ≡ r 0 2 ∷ r 3 5 ∷ []
what_is_written_is_not_read = refl

-- ---- drivers

abbrev by : ℕ → ℕ → ℕ → OwnedRange
by p from to = record { range = r from to; proc = p }

the_least_of_two_shared_bits : sweep 0 0 (by 0 0 4 ∷ by 2 3 6 ∷ by 1 5 7 ∷ []) ≡ Some 3
the_least_of_two_shared_bits = refl

one_process_may_write_twice : sweep 0 0 (by 1 0 4 ∷ by 1 2 6 ∷ by 0 6 7 ∷ []) ≡ None
one_process_may_write_twice = refl

-- ---- pieces of 8 bits, cut below bits 4, 5 and 7

four_pieces : pieces_from (λ bit. (bit == 4) || ((bit == 5) || (bit == 7))) 0 1 7
    ≡ record { bit = 0; len = 4 } ∷ record { bit = 4; len = 1 } ∷ record { bit = 5; len = 2 } ∷ record { bit = 7; len = 1 } ∷ []
four_pieces = refl

a_single_bit_is_one_piece : pieces_from (λ bit. true) 0 1 0 ≡ record { bit = 0; len = 1 } ∷ []
a_single_bit_is_one_piece = refl

-- ---- the rule of 64 bits

abbrev of_width : ℕ → ℕ → Item
of_width elements width = record { first = 0; elements = elements; width = width; lsb = 0; low = pos 0 }

abbrev nobody : ℕ → Option ℕ
nobody b = None

-- process 0 writes the bits below a place, and process 1 the others
abbrev both_at : ℕ → ℕ → Option ℕ
both_at place b = if nat_lt b place then Some 0 else Some 1

-- process 0 writes the bits from a place up to another
abbrev between : ℕ → ℕ → ℕ → Option ℕ
between from to b = if nat_le from b && nat_lt b to then Some 0 else None

a_full_piece_ends : begins nobody 0 64 ≡ true
a_full_piece_ends = refl

one_bit_less_goes_on : begins nobody 0 63 ≡ false
one_bit_less_goes_on = refl

-- it counts from where the writer changes
from_the_last_cut : begins (both_at 10) 0 74 ≡ true
from_the_last_cut = refl

not_from_the_first : begins (both_at 10) 0 64 ≡ false
not_from_the_first = refl

-- `logic [127:0] m [0:2]; assign m[1][9:0] = a;`: element 1 is cut at 0, 10 and 74, the others at 0 and 64, and so each at all of these
cut_where_one_is_full : is_cut (between 128 138) (of_width 3 128) 64 0 3 ≡ true
cut_where_one_is_full = refl

cut_where_another_writes : is_cut (between 128 138) (of_width 3 128) 10 0 3 ≡ true
cut_where_another_writes = refl

cut_where_the_rest_is_full : is_cut (between 128 138) (of_width 3 128) 74 0 3 ≡ true
cut_where_the_rest_is_full = refl

not_cut_again : is_cut (between 128 138) (of_width 3 128) 127 0 3 ≡ false
not_cut_again = refl
