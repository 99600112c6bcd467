-- The definitions, worked out.
use Rattle.std.proofs.Common.{◌≡◌, true, false, refl, [], ◌∷◌}
use Rattle.dpi_host.specs.declared.mode.Mode.TheVariants as mode
use Rattle.dpi_host.specs.Calls.{padded}
use Rattle.dpi_host.specs.HostMachine.{reply_of}
use Rattle.dpi_host.specs.Modes.{is_deemed}

all_are_deemed : is_deemed mode.All false ≡ true
all_are_deemed = refl

pure_ones_are : is_deemed mode.Pure true ≡ true
pure_ones_are = refl

others_are_not : is_deemed mode.Pure false ≡ false
others_are_not = refl

none_is : is_deemed mode.None true ≡ false
none_is = refl

-- 0x1ff in 8 bits, and the reply of a void import
reply_of_a_byte : reply_of 8 0x1ff ≡ 0xff
reply_of_a_byte = refl

reply_of_void : reply_of 0 0x1ff ≡ 0
reply_of_void = refl

padded_two : padded (5 ∷ 7 ∷ []) ≡ 5 ∷ 7 ∷ 0 ∷ 0 ∷ 0 ∷ 0 ∷ 0 ∷ 0 ∷ []
padded_two = refl

padded_eight : padded (1 ∷ 2 ∷ 3 ∷ 4 ∷ 5 ∷ 6 ∷ 7 ∷ 8 ∷ []) ≡ 1 ∷ 2 ∷ 3 ∷ 4 ∷ 5 ∷ 6 ∷ 7 ∷ 8 ∷ []
padded_eight = refl
