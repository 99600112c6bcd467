-- Types within the limit, and the order of faults: operands from left to right, each whole, then the thing that holds them.
use Rattle.std.specs.Prelude.{ℕ, ◌≤◌, Bool, false, ◌&&◌, if◌then◌else◌, nat_le, Option, Some, None, Result, Ok, Err, ℤ, pos, negsuc, int_lt}
use Rattle.vs_base.specs.declared.types.ValueType.{ValueType}
use Rattle.vs_base.specs.declared.origin.Origin.{Origin}
use Rattle.vs_base.specs.declared.limits.TheConstants.{WIDTH}
use Rattle.sv_expr.specs.declared.fault.WalkFault.{WalkFault}
use Rattle.sv_expr.specs.declared.fault.WalkFault.TheVariants.{TooWide, BadRange}
use Rattle.sv_expr.specs.declared.typed.Typed.{Typed}

-- one bit without a sign
abbrev pub bit : ValueType
bit = record { width = 1; signed = false }

abbrev pub unsigned : ℕ → ValueType
unsigned width = record { width = width; signed = false }

abbrev pub fine : ValueType → Typed
fine kind = record { kind = kind; fault = None }

-- the first of two faults
infixr 20 ◌before◌
abbrev pub ◌before◌ : Option WalkFault → Option WalkFault → Option WalkFault
None before b = b
(Some f) before b = Some f

-- what is at fault itself, after the faults of its parts, counts as one bit
abbrev pub refused : Option WalkFault → WalkFault → Typed
refused earlier f = record { kind = bit; fault = earlier before Some f }

-- a width that a type may have
abbrev pub is_width : ℕ → Bool
is_width width = nat_le 1 width && nat_le width WIDTH

-- a type of so many bits
abbrev pub bounded : Origin → Option WalkFault → ValueType → Typed
bounded at earlier kind = if is_width kind.width then record { kind = kind; fault = earlier } else refused earlier (TooWide at)

abbrev pub whole_part : ℤ → ℕ
whole_part (pos n) = n
whole_part (negsuc n) = 0

-- an unsigned type of so many bits, which are a range or a count
abbrev pub ranged : Origin → Option WalkFault → ℤ → Typed
ranged at earlier width = if int_lt width (pos 1) then refused earlier (BadRange at) else bounded at earlier (unsigned (whole_part width))

-- the same as a fact
pub record IsWidth (width : ℕ) : Type 0 where
  pub some : 1 ≤ width
  pub most : width ≤ WIDTH

-- the fault of an answer
abbrev pub fault_in : {A : Type 0} → Result A WalkFault → Option WalkFault
fault_in (Ok x) = None
fault_in (Err f) = Some f
