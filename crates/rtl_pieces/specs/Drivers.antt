-- What a fault of drivers tells: the least bit that two processes write, and the first two that write it (IEEE 1800-2017 9.2.2.2, 10.3.2).
use Rattle.std.specs.Prelude.{ℕ, ◌<◌, ◌≡◌, Bool, true, ⊤}
use Rattle.rtl_pieces.specs.declared.bit.BitRef.{BitRef}
use Rattle.rtl_pieces.specs.declared.fault.DriverFault.{DriverFault}
use Rattle.rtl_pieces.specs.declared.fault.DriverFault.TheVariants.{NoMemory, MultipleDrivers}
use Rattle.rtl_pieces.specs.Line.{Line, place_of, is_bit}
use Rattle.rtl_pieces.specs.Owned.{Single}

pub record IsDouble (line : Line) (writes : ℕ → ℕ → Bool) (bit : BitRef) (first second : ℕ) : Type 0 where
  pub is_bit : is_bit line bit ≡ true
  pub first_writes : writes first (place_of line bit) ≡ true
  pub second_writes : writes second (place_of line bit) ≡ true
  pub in_order : first < second
  pub first_two : (p : ℕ) → p < second → writes p (place_of line bit) ≡ true → p ≡ first
  pub least : (b : ℕ) → b < place_of line bit → Single writes b

abbrev pub IsFault : Line → (ℕ → ℕ → Bool) → DriverFault → Type 0
IsFault line writes (NoMemory error) = ⊤
IsFault line writes (MultipleDrivers bit first second) = IsDouble line writes bit first second
