-- Ranges with the processes that write them.
use Rattle.std.specs.Prelude.{ℕ, ◌<◌, ◌≤◌, min, ◌≡◌, Bool, true, false, if◌then◌else◌, ◌&&◌, not, ◌==◌, nat_le, nat_lt, List, [], ◌∷◌, Option, Some, None, ⊤}
use Rattle.std.specs.List.{list_any}
use Rattle.rtl_pieces.specs.declared.owned.OwnedRange.{OwnedRange}
use Rattle.rtl_pieces.specs.declared.range.BitRange.{BitRange}
use Rattle.rtl_pieces.specs.Line.{inside}

abbrev pub of_process : ℕ → BitRange → OwnedRange
of_process proc range = record { range = range; proc = proc }

-- the lesser of a number and one that may be there
abbrev pub lesser : Option ℕ → ℕ → ℕ
lesser (Some p) q = min p q
lesser None q = q

abbrev pub first_place : OwnedRange → ℕ
first_place o = o.range.from

-- whether one of them is of a process and has a bit
abbrev pub owns : ℕ → ℕ → OwnedRange → Bool
owns p b o = (o.proc == p) && inside b o.range

abbrev pub owned_by : ℕ → ℕ → List OwnedRange → Bool
owned_by p b all = list_any (owns p b) all

-- a number that may be there, or the process where it is the lesser, has a bit and is no lower than a number
abbrev pub with_owned : ℕ → ℕ → Option ℕ → OwnedRange → Option ℕ
with_owned least b found o = if nat_le least o.proc && owns o.proc b o then Some (lesser found o.proc) else found

abbrev pub least_of : ℕ → ℕ → Option ℕ → List OwnedRange → Option ℕ
least_of least b found [] = found
least_of least b found (o ∷ more) = least_of least b (with_owned least b found o) more

-- the least from a number on that passes, and none where none does
abbrev pub IsLeast : (ℕ → Bool) → ℕ → Option ℕ → Type 0
IsLeast passes least None = (p : ℕ) → least ≤ p → passes p ≡ false
IsLeast passes least (Some p) = (least ≤ p) × (passes p ≡ true) × ((q : ℕ) → least ≤ q → q < p → passes q ≡ false)

abbrev pub Sorted : ℕ → List OwnedRange → Type 0
Sorted low [] = ⊤
Sorted low (o ∷ more) = (low ≤ o.range.from) × Sorted o.range.from more

-- no two of these write a bit
abbrev pub Single : (ℕ → ℕ → Bool) → ℕ → Type 0
Single writes b = (p q : ℕ) → writes p b ≡ true → writes q b ≡ true → p ≡ q

-- a bit that two of these write, below which there is none
pub record LeastShared (writes : ℕ → ℕ → Bool) (b : ℕ) : Type 0 where
  pub first : ℕ
  pub second : ℕ
  pub apart : first ≡ second → ⊥
  pub first_writes : writes first b ≡ true
  pub second_writes : writes second b ≡ true
  pub least : (c : ℕ) → c < b → Single writes c

-- ---- how it is found: of the ranges so far one reaches furthest, up to a place

abbrev pub sweep : ℕ → ℕ → List OwnedRange → Option ℕ
sweep reach proc [] = None
sweep reach proc (o ∷ more) =
    if nat_lt o.range.from o.range.to
    then (if nat_lt o.range.from reach && not (o.proc == proc) then Some o.range.from else (if nat_lt reach o.range.to then sweep o.range.to o.proc more else sweep reach proc more))
    else sweep reach proc more
