-- What a process reads and writes: bits of the design, by their places in its line.
use Rattle.std.specs.Prelude.{ℕ, zero, suc, ◌-◌, ◌++◌, ◌≤◌, Bool, true, ◌&&◌, not, ◌≡◌, ◌==◌, ⊤, nat_lt, List, [], ◌∷◌, Option, Some, None, slice_get}
use Rattle.rtl_ir.specs.declared.design.Proc.{Proc}
use Rattle.rtl_ir.specs.declared.whole.Design.{Design}
use Rattle.std.specs.List.{list_any}
use Rattle.rtl_pieces.specs.declared.bit.BitRef.{BitRef}
use Rattle.rtl_pieces.specs.declared.range.BitRange.{BitRange}
use Rattle.rtl_pieces.specs.Line.{Line, line_of, items_in, has, is_bit, place_of}
use Rattle.rtl_pieces.specs.Writes.{body_writes, body_reads}

-- the ranges that stand on its left sides, and those that its expressions and indices name
abbrev pub named_left : Line → Option Proc → List BitRange
named_left line (Some process) = body_writes (items_in line) process.body []
named_left line None = []

abbrev pub named_right : Line → Option Proc → List BitRange
named_right line (Some process) = body_reads (items_in line) process.body []
named_right line None = []

-- it writes the bits of its left sides
abbrev pub writes : Line → List Proc → ℕ → ℕ → Bool
writes line procs p b = nat_lt b line.bits && has b (named_left line (slice_get procs p))

-- those that its expressions and indices name
abbrev pub names : Line → List Proc → ℕ → ℕ → Bool
names line procs p b = nat_lt b line.bits && has b (named_right line (slice_get procs p))

-- it reads those that it names and does not write (IEEE 1800-2017 9.2.2.2.1)
abbrev pub reads : Line → List Proc → ℕ → ℕ → Bool
reads line procs p b = names line procs p b && not (writes line procs p b)

-- the line of a design
abbrev pub line_in : Design → Line
line_in design = line_of design.vars design.mems

-- ---- sets of bits, bit by bit

-- whether one of them stands at a place
abbrev pub lists : Line → List BitRef → ℕ → Bool
lists line bits b = list_any (λ bit. place_of line bit == b) bits

-- so many places from one on, and those of ranges, one range after another
abbrev pub places_from : ℕ → ℕ → List ℕ
places_from place zero = []
places_from place (suc more) = place ∷ places_from (suc place) more

abbrev pub places_in : List BitRange → List ℕ
places_in [] = []
places_in (r ∷ more) = places_from r.from (r.to - r.from) ++ places_in more

-- they are bits of the design in the order of their places, none before a place and none twice
abbrev pub Rises : Line → ℕ → List BitRef → Type 0
Rises line low [] = ⊤
Rises line low (bit ∷ more) = (low ≤ place_of line bit) × (is_bit line bit ≡ true) × Rises line (suc (place_of line bit)) more
