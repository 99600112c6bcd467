-- The bits that a name with its selects stands for. A select of constants stands for its own bits, and for none where it is out of
-- range; any other stands for the whole variable or the whole memory (IEEE 1800-2017 11.5.1 to 11.5.3).
use Rattle.std.specs.Prelude.{ℕ, ◌+◌, ◌-◌, ◌*◌, ◌^◌, min, if◌then◌else◌, nat_lt, Option, Some, None, ℤ, pos, negsuc, ◌+ℤ◌, ◌-ℤ◌}
use Rattle.rtl_pieces.specs.declared.range.BitRange.{BitRange}
use Rattle.rtl_pieces.specs.declared.item.Item.{Item}
use Rattle.rtl_pieces.specs.declared.item.Part.{Part}

-- no bit
abbrev pub nothing : BitRange
nothing = record { from = 0; to = 0 }

abbrev pub whole_item : Item → BitRange
whole_item item = record { from = item.first; to = item.first + item.elements * item.width }

-- so many bits from a bit number on, those of them that an element of this width has; its first bit stands at this place
abbrev pub clipped : ℕ → ℕ → ℤ → ℕ → BitRange
clipped first width (pos n) count = record { from = first + min n width; to = first + min (n + count) width }
clipped first width (negsuc n) count = record { from = first; to = first + min (count - (n + 1)) width }

-- the number of the lowest bit of a part select, where a declared range ends at lsb: `[at +: width]`, `[at -: width]`
abbrev pub lowest_bit : Item → Part → ℤ
lowest_bit item part = if part.down then (part.at +ℤ pos 1) -ℤ pos part.width -ℤ pos item.lsb else part.at -ℤ pos item.lsb

-- a part of an element, or all of it
abbrev pub part_of : Item → ℕ → Option Part → BitRange
part_of item element None = record { from = item.first + element * item.width; to = item.first + element * item.width + item.width }
part_of item element (Some part) = clipped (item.first + element * item.width) item.width (lowest_bit item part) part.width

-- at an address above the lowest one by so much
abbrev pub part_at : Item → ℤ → Option Part → BitRange
part_at item (pos n) part = if nat_lt n item.elements then part_of item n part else nothing
part_at item (negsuc n) part = nothing

abbrev pub named_bits : Item → ℤ → Option Part → BitRange
named_bits item address part = part_at item (address -ℤ item.low) part

-- ---- an index of 2 ^ 64, or of -1 - 2 ^ 64, names no bit of any variable or memory, and no more does one that is farther away

abbrev pub capped : ℤ → ℤ
capped (pos n) = pos (min n (2 ^ 64))
capped (negsuc n) = negsuc (min n (2 ^ 64))

abbrev pub capped_part : Part → Part
capped_part part = record { at = capped part.at; width = part.width; down = part.down }
