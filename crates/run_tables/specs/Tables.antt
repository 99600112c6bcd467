-- Tables of the words of variables.
use Rattle.std.specs.Prelude.{ℕ, Bool, nat_le, if◌then◌else◌, List, slice_set}
use Rattle.rtl_pieces.specs.declared.layout.Word.{Word}
use Rattle.plan_types.specs.Machine.{is_piece}
use Rattle.plan_types.specs.declared.input.InputWord.{InputWord}

-- a word is noted for its variable, on the way
abbrev pub noted : List ℕ → Word → ℕ → List ℕ
noted table word number = if is_piece word then slice_set table word.holds.item number else table

-- the bits of an input in a word are at most 64
abbrev pub is_narrow : InputWord → Bool
is_narrow w = nat_le w.len 64
