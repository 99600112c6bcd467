-- What names mean in scopes of three names, where 9 is nothing.
use Rattle.std.proofs.Common.{◌≡◌, ℕ, [], ◌∷◌, true, false, refl}
use Rattle.scope_table.specs.Scopes.{Scopes, at_file_level, entered, module_entered, left, globally_declared, declared, meaning_here, declares}
use Rattle.scope_table.specs.ScopeLaws.{all_declared}

abbrev first : Scopes ℕ
first = at_file_level 3 9

-- name 0 is an import; a module declares name 1; a block in it declares name 1 again and name 2
abbrev import_0 : Scopes ℕ
import_0 = globally_declared 0 10 first

abbrev module_1 : Scopes ℕ
module_1 = declared 1 11 (module_entered import_0)

abbrev block_1_2 : Scopes ℕ
block_1_2 = all_declared ((1, 12) ∷ (2, 13) ∷ []) (entered module_1)

at_first : meaning_here first 0 ≡ 9
at_first = refl

past_the_table : meaning_here block_1_2 3 ≡ 9
past_the_table = refl

declared_past_the_table : declared 7 14 block_1_2 ≡ block_1_2
declared_past_the_table = refl

import_in_the_module : meaning_here module_1 0 ≡ 10
import_in_the_module = refl

import_is_not_of_the_module : declares module_1.present 0 ≡ false
import_is_not_of_the_module = refl

import_is_of_the_file : declares module_1.file 0 ≡ true
import_is_of_the_file = refl

no_import_in_a_scope : globally_declared 2 15 module_1 ≡ module_1
no_import_in_a_scope = refl

hidden_in_the_block : meaning_here block_1_2 1 ≡ 12
hidden_in_the_block = refl

again_after_the_block : meaning_here (left block_1_2) 1 ≡ 11
again_after_the_block = refl

forgotten_after_the_block : meaning_here (left block_1_2) 2 ≡ 9
forgotten_after_the_block = refl

replaced_in_one_scope : meaning_here (declared 1 16 block_1_2) 1 ≡ 16
replaced_in_one_scope = refl

-- a module whose instance stands in the block
child_sees_no_module : meaning_here (module_entered block_1_2) 1 ≡ 9
child_sees_no_module = refl

child_sees_the_import : meaning_here (module_entered (declared 0 17 block_1_2)) 0 ≡ 10
child_sees_the_import = refl

block_of_the_child : meaning_here (entered (declared 2 18 (module_entered block_1_2))) 2 ≡ 18
block_of_the_child = refl

back_in_the_block : left (declared 2 18 (module_entered block_1_2)) ≡ block_1_2
back_in_the_block = refl

not_left_at_the_file_level : left import_0 ≡ import_0
not_left_at_the_file_level = refl

at_the_file_level_every_module_sees_it : meaning_here (module_entered (declared 2 19 import_0)) 2 ≡ 19
at_the_file_level_every_module_sees_it = refl
