-- The bits of a design in one line: those of the variables in list order, then those of the memories in list order, and within one of
-- these by address and by bit number. A bit goes by its place in this line, and a set of bits by ranges of places.
use Rattle.std.specs.Prelude.{ℕ, ◌+◌, ◌-◌, ◌*◌, ◌==◌, ◌≡◌, Bool, true, false, ◌&&◌, if◌then◌else◌, nat_le, nat_lt, List, [], ◌∷◌, ◌++◌, length, Option, Some, None, slice_get, pos}
use Rattle.std.specs.List.{list_any}
use Rattle.rtl_ir.specs.declared.design.Var.{Var}
use Rattle.rtl_ir.specs.declared.design.Mem.{Mem}
use Rattle.rtl_pieces.specs.declared.range.BitRange.{BitRange}
use Rattle.rtl_pieces.specs.declared.bit.BitRef.{BitRef}
use Rattle.rtl_pieces.specs.declared.item.Item.{Item}

-- the variables and then the memories, how many variables there are, and how many bits
pub record Line : Type 0 where
  pub items : List Item
  pub vars : ℕ
  pub bits : ℕ

-- a variable is one element, at address 0
abbrev pub var_item : ℕ → Var → Item
var_item first v = record { first = first; elements = 1; width = v.width; lsb = v.lsb; low = pos 0 }

abbrev pub mem_item : ℕ → Mem → Item
mem_item first m = record { first = first; elements = m.count; width = m.width; lsb = m.lsb; low = m.low }

-- one behind the other, from a place on
abbrev pub var_items : ℕ → List Var → List Item
var_items first [] = []
var_items first (v ∷ more) = var_item first v ∷ var_items (first + v.width) more

abbrev pub mem_items : ℕ → List Mem → List Item
mem_items first [] = []
mem_items first (m ∷ more) = mem_item first m ∷ mem_items (first + m.count * m.width) more

-- how many bits there are
abbrev pub size_of : Item → ℕ
size_of item = item.elements * item.width

-- the place after the last bit of items that begin at a place
abbrev pub end_of : ℕ → List Item → ℕ
end_of first [] = first
end_of first (item ∷ more) = end_of (first + size_of item) more

-- the variables, and behind them the memories
abbrev pub items_of : List Var → List Mem → List Item
items_of vars mems = var_items 0 vars ++ mem_items (end_of 0 (var_items 0 vars)) mems

abbrev pub line_of : List Var → List Mem → Line
line_of vars mems = record { items = items_of vars mems; vars = length vars; bits = end_of 0 (items_of vars mems) }

-- they stand one behind the other, from a place on
abbrev pub stand_behind : ℕ → List Item → Bool
stand_behind first [] = true
stand_behind first (item ∷ more) = (item.first == first) && stand_behind (first + size_of item) more

pub record Placed (line : Line) : Type 0 where
  pub behind : stand_behind 0 line.items ≡ true
  pub bits : line.bits ≡ end_of 0 line.items

-- the lowest bit of the first element of an item
abbrev pub first_bit : Line → ℕ → BitRef
first_bit line k = if nat_lt k line.vars then record { mem = false; item = k; element = 0; bit = 0 } else record { mem = true; item = k - line.vars; element = 0; bit = 0 }

-- where there is no such variable or memory there are no bits
abbrev pub no_item : Item
no_item = record { first = 0; elements = 0; width = 0; lsb = 0; low = pos 0 }

abbrev pub item_or_none : Option Item → Item
item_or_none (Some item) = item
item_or_none None = no_item

-- the item of a number that may be there
abbrev pub got : List Item → Option ℕ → Option Item
got items (Some k) = slice_get items k
got items None = None

-- the variable or the memory of a number
abbrev pub item_in : List Item → ℕ → Bool → ℕ → Item
item_in items vars false k = if nat_lt k vars then item_or_none (slice_get items k) else no_item
item_in items vars true k = item_or_none (slice_get items (vars + k))

abbrev pub items_in : Line → Bool → ℕ → Item
items_in line = item_in line.items line.vars

-- whether a range has a bit, and whether one of some ranges has it
abbrev pub inside : ℕ → BitRange → Bool
inside b r = nat_le r.from b && nat_lt b r.to

abbrev pub has : ℕ → List BitRange → Bool
has b ranges = list_any (inside b) ranges

-- the place of a bit
abbrev pub place_in : Item → ℕ → ℕ → ℕ
place_in item element bit = item.first + element * item.width + bit

abbrev pub place_of : Line → BitRef → ℕ
place_of line b = place_in (items_in line b.mem b.item) b.element b.bit

-- whether there is such a bit
abbrev pub is_bit_in : Item → ℕ → ℕ → Bool
is_bit_in item element bit = nat_lt element item.elements && nat_lt bit item.width

abbrev pub is_bit : Line → BitRef → Bool
is_bit line b = is_bit_in (items_in line b.mem b.item) b.element b.bit
