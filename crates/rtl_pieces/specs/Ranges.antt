-- Sets of bits as ascending ranges with gaps between them.
use Rattle.std.specs.Prelude.{ℕ, suc, ◌<◌, ◌≤◌, max, min, if◌then◌else◌, nat_le, nat_lt, List, [], ◌∷◌, ◌++◌, ⊤}
use Rattle.rtl_pieces.specs.declared.range.BitRange.{BitRange}

abbrev pub first_place : BitRange → ℕ
first_place r = r.from

-- each has a bit, each ends before the next begins, and the first begins no earlier than at a place
abbrev pub Ascending : ℕ → List BitRange → Type 0
Ascending low [] = ⊤
Ascending low (r ∷ more) = (low ≤ r.from) × (r.from < r.to) × Ascending (suc r.to) more

-- none goes past a place
abbrev pub AllBelow : ℕ → List BitRange → Type 0
AllBelow end [] = ⊤
AllBelow end (r ∷ more) = (r.to ≤ end) × AllBelow end more

-- the first begins no earlier than at a place, and none begins before the one that it follows
abbrev pub Sorted : ℕ → List BitRange → Type 0
Sorted low [] = ⊤
Sorted low (r ∷ more) = (low ≤ r.from) × Sorted r.from more

-- ---- how ranges are put together

abbrev pub empty : BitRange
empty = record { from = 0; to = 0 }

-- the range, where it has a bit
abbrev pub settled : BitRange → List BitRange
settled r = if nat_lt r.from r.to then r ∷ [] else []

abbrev pub joined : BitRange → BitRange → BitRange
joined last next = record { from = last.from; to = max last.to next.to }

-- the bits of a range and of sorted ranges after it
abbrev pub merged : BitRange → List BitRange → List BitRange
merged last [] = settled last
merged last (r ∷ more) = if nat_le r.from last.to then merged (joined last r) more else settled last ++ merged r more

-- ---- how they are cut off at a place

abbrev pub below : ℕ → List BitRange → List BitRange
below end [] = []
below end (r ∷ more) = settled (record { from = r.from; to = min r.to end }) ++ below end more

-- ---- how they are taken away

abbrev pub after : ℕ → List BitRange → List BitRange
after place [] = []
after place (r ∷ more) = if nat_lt place r.to then r ∷ more else after place more

abbrev pub left : ℕ → ℕ → List BitRange → List BitRange
left from to [] = settled (record { from = from; to = to })
left from to (r ∷ more) = if nat_lt r.from to then settled (record { from = from; to = r.from }) ++ left (max from r.to) to more else settled (record { from = from; to = to })

abbrev pub minus : List BitRange → List BitRange → List BitRange
minus [] others = []
minus (r ∷ more) others = left r.from r.to (after r.from others) ++ minus more (after r.from others)
