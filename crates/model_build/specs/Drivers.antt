-- Which bit with two writers is refused.
use Rattle.std.specs.Prelude.{◌≡◌, ℕ, List, Option, Some, None, slice_get, ⊤}
use Rattle.vs_base.specs.declared.origin.Origin.{Origin}
use Rattle.rtl_ir.specs.declared.design.Proc.{Proc}
use Rattle.rtl_ir.specs.declared.whole.Design.{Design}
use Rattle.rtl_pieces.specs.declared.bit.BitRef.{BitRef}
use Rattle.rtl_pieces.specs.Bits.{line_in, writes}
use Rattle.rtl_pieces.specs.Drivers.{IsDouble}
use Rattle.model_build.specs.Names.{bit_name}
use Rattle.model_build.specs.declared.fault.BuildFault.{BuildFault}
use Rattle.model_build.specs.declared.fault.BuildFault.TheVariants as fault

abbrev pub nowhere : Origin
nowhere = record { file = 0; line = 0; col = 0 }

abbrev pub origin_or_none : Option Proc → Origin
origin_or_none (Some process) = process.at
origin_or_none None = nowhere

-- the place of a process
abbrev pub origin_of : List Proc → ℕ → Origin
origin_of procs p = origin_or_none (slice_get procs p)

-- the name of the least bit with two writers, and the places of the first two
pub record TwoDrivers (design : Design) (name : List ℕ) (one two : Origin) : Type 0 where
  pub bit : BitRef
  pub first : ℕ
  pub second : ℕ
  pub is_double : IsDouble (line_in design) (writes (line_in design) design.procs) bit first second
  pub named : name ≡ bit_name design.vars design.mems bit
  pub first_at : one ≡ origin_of design.procs first
  pub second_at : two ≡ origin_of design.procs second

abbrev pub DriverRefusal : Design → BuildFault → Type 0
DriverRefusal design (fault.NoMemory error) = ⊤
DriverRefusal design (fault.MultipleDrivers name one two) = TwoDrivers design name one two
DriverRefusal design _ = ⊥
