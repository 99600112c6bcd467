-- The table, worked out.
use Rattle.std.proofs.Common.{◌≡◌, false, Some, None, refl, [], ◌∷◌}
use Rattle.std.specs.Prelude.{codes, replicate}
use Rattle.std.specs.Int.RustNames.{count_ones}
use lib.Count.{ones_in}
use Rattle.dpi_lib.specs.Library.{from_bits, reversed, mixed, rotated, imports, import_at, library_id, library_by_args, library_answer, library_after, cell_of}

popcount_ff : count_ones 0xff ≡ 8
unfolding count_ones ones_in
popcount_ff = refl

reverse_1 : reversed 1 ≡ 0x80000000
unfolding from_bits
reverse_1 = refl

reverse_of_64_bits : reversed 0xffffffff000000f0 ≡ 0x0f000000
unfolding from_bits
reverse_of_64_bits = refl

mix_1_0 : mixed 1 0 ≡ 0x9e3779b9e17d05ac
mix_1_0 = refl

rotl_by_1 : rotated 0x80000001 1 ≡ 3
rotl_by_1 = refl

rotl_by_36 : rotated 0x12345678 36 ≡ 0x23456781
rotl_by_36 = refl

rotl_of_40_bits : rotated 0xff12345678 32 ≡ 0x12345678
rotl_of_40_bits = refl

rotl_is_6 : library_id (codes "vs_rotl") ≡ Some 6
unfolding library_id imports
rotl_is_6 = refl

no_import : library_id (codes "vs_nexts") ≡ None
unfolding library_id imports
no_import = refl

max_with_one_argument : library_answer [] [] 4 (3 ∷ []) ≡ 3
unfolding import_at imports
max_with_one_argument = refl

-- vs_next wraps at 2 ^ 64
next_wraps : library_after [] (0xffffffffffffffff ∷ 5 ∷ 6 ∷ []) 7 [] ≡ 0 ∷ 5 ∷ 6 ∷ []
unfolding import_at imports
next_wraps = refl

put_6 : library_after [] (0 ∷ 5 ∷ []) 8 (6 ∷ []) ≡ 0 ∷ 11 ∷ []
unfolding import_at imports
put_6 = refl

-- cell 17 modulo 16
poke_17 : cell_of (library_after [] (replicate 18 0) 11 (17 ∷ 7 ∷ [])) 1 ≡ 7
unfolding import_at imports
poke_17 = refl

sum_is_told : library_by_args 9 ≡ false
unfolding import_at imports
sum_is_told = refl
