-- The values of the variables, word by word.
use Rattle.std.specs.Prelude.{ℕ, nat_le, Bool, List, [], ◌∷◌, if◌then◌else◌, slice_index_or, slice_set, map, pos}
use Rattle.vs_base.specs.Number.{Number, kept, placed}
use Rattle.rtl_ir.specs.declared.design.Var.{Var}
use Rattle.rtl_pieces.specs.declared.layout.Word.{Word}
use Rattle.plan_types.specs.Machine.{is_piece, no_number}

-- nothing is known yet
abbrev pub zeros_of : List Var → List Number
zeros_of vars = map (λ (x : Var). kept x.width 0) vars

-- a word's bits are put into the value of its variable
abbrev pub put_word : Word → ℕ → List Number → List Number
put_word word value values =
    if is_piece word
    then slice_set values word.holds.item (placed (slice_index_or values word.holds.item no_number) (pos word.holds.bit) (kept word.len value))
    else values

abbrev pub put_words : List Word → List ℕ → List Number → List Number
put_words [] found values = values
put_words (word ∷ words) [] values = values
put_words (word ∷ words) (value ∷ found) values = put_words words found (put_word word value values)

-- a word of no more bits than a value has
abbrev pub is_short : Word → Bool
is_short word = nat_le word.len 128
