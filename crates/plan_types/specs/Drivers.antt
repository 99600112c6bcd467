-- Who drives the bits of a design.
use Rattle.std.specs.Prelude.{◌≡◌, ℕ, ◌+◌, Bool, true, false, ◌&&◌}
use Rattle.std.specs.List.{list_any}
use Rattle.rtl_ir.specs.declared.design.Port.{Port}
use Rattle.rtl_ir.specs.declared.whole.Design.{Design}
use Rattle.rtl_pieces.specs.declared.range.BitRange.{BitRange}
use Rattle.rtl_pieces.specs.Line.{Line, items_in, inside}
use Rattle.rtl_pieces.specs.Bits.{line_in, writes}

-- no bit has two writers
pub record OneDriver (design : Design) : Type 0 where
  pub single : (b p q : ℕ) → writes (line_in design) design.procs p b ≡ true → writes (line_in design) design.procs q b ≡ true → p ≡ q

-- the bits of a variable
abbrev pub bits_of_var : Line → ℕ → BitRange
bits_of_var line v = record { from = (items_in line false v).first; to = (items_in line false v).first + (items_in line false v).width }

-- a bit of an input port of the top
abbrev pub is_input : Line → Port → ℕ → Bool
is_input line port b = port.input && inside b (bits_of_var line port.var)

-- the inputs are driven from outside: no process writes a bit of one
pub record FreeInputs (design : Design) : Type 0 where
  pub unwritten : (p b : ℕ) → writes (line_in design) design.procs p b ≡ true → list_any (λ (port : Port). is_input (line_in design) port b) design.ports ≡ false
