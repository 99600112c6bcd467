-- Small examples of the definitions, worked by hand from the standard.
use Rattle.std.specs.Prelude.{◌≡◌, ℕ, ◌-◌, ◌^◌, List, [], ◌∷◌, map, Some, true, false, codes}
use Rattle.std.proofs.Common.{refl}
use Rattle.sv_tree.specs.declared.token.TokenKind.TheVariants as kind
use Rattle.sv_lex.specs.declared.piece.Piece.TheVariants.{Skipped, Spelled, Wrong}
use Rattle.sv_lex.specs.declared.piece.Defect.TheVariants as defect
use Rattle.sv_lex.specs.Spelling.{spelling, is_word, is_mark_1, is_mark_2, is_mark_3}
use Rattle.sv_lex.specs.Cut.{front, longest, cut, start}
use Rattle.sv_lex.specs.Lexeme.{Lexeme, lexeme_of}
use Rattle.sv_lex.specs.Number.{is_number, is_small, value}

abbrev lexemes : List ℕ → List Lexeme
lexemes text = map lexeme_of (cut (start 0) text).tokens

-- a size and a base are two tokens
sized : lexemes (codes "8'hFF") ≡ (record { kind = kind.Decimal; text = codes "8" } ∷ record { kind = kind.Based; text = codes "'hFF" } ∷ [])
unfolding cut front longest
sized = refl

-- the longest mark
shifted : lexemes (codes "a<<<b")
    ≡ (record { kind = kind.Name; text = codes "a" } ∷ record { kind = kind.Mark; text = codes "<<<" } ∷ record { kind = kind.Name; text = codes "b" } ∷ [])
unfolding cut front longest is_word is_mark_1 is_mark_2 is_mark_3
shifted = refl

-- places: the `;` stands in line 2, column 2
placed : cut (start 3) (codes "\n ;$") ≡ record {
  tokens = record { kind = kind.Mark; text = codes ";"; at = record { file = 3; line = 2; col = 2 } } ∷ [];
  fault = Some (defect.BadChar, record { file = 3; line = 2; col = 3 });
}
unfolding cut front longest is_mark_1 is_mark_2 is_mark_3
placed = refl

-- words are reserved only whole
words : (spelling (codes "begin") ≡ Some (Some kind.Word)) × (spelling (codes "begin_") ≡ Some (Some kind.Name)) × (spelling (codes "Begin") ≡ Some (Some kind.Name))
unfolding is_word
words = (refl, refl, refl)

-- the `*/` of a comment comes after its `/*`
comments : (front (codes "/*/") ≡ Wrong defect.OpenComment) × (front (codes "/**/*/") ≡ Skipped 4) × (front (codes "//\n") ≡ Skipped 2)
unfolding front longest is_mark_1 is_mark_2 is_mark_3
comments = (refl, refl, refl)

-- a `"` after a `\` ends no string, nor does one on the next line
strings : (front (codes "\"a\\\\\"") ≡ Wrong defect.OpenString) × (front (codes "\"\\\"\"+") ≡ Spelled kind.Text 4) × (front (codes "\"\n\"") ≡ Wrong defect.OpenString)
unfolding front longest
strings = (refl, refl, refl)

-- what begins with a quote
quotes : (front (codes "'sx") ≡ Wrong defect.BadChar) × (front (codes "'10") ≡ Spelled kind.Fill 2) × (front (codes "'SD?_z9g") ≡ Spelled kind.Based 7)
unfolding front longest
quotes = (refl, refl, refl)

-- names after a `$` or a backquote
named : (front (codes "$clog2(") ≡ Spelled kind.System 6) × (front (codes "`else`") ≡ Spelled kind.Directive 5) × (front (codes "$1") ≡ Wrong defect.BadChar)
unfolding front longest
named = (refl, refl, refl)

-- which are numbers
based : (is_number kind.Based (codes "'sd") ≡ false) × (is_number kind.Based (codes "'b12") ≡ false) × (is_number kind.Based (codes "'sHf_F") ≡ true) × (is_number kind.Based (codes "'h_") ≡ false)
based = (refl, refl, refl, refl)

bounds : (is_small (2 ^ 128 - 1) ≡ true) × (is_small (2 ^ 128) ≡ false) × (is_number kind.Decimal (codes "18446744073709551616") ≡ true)
bounds = (refl, refl, refl)

values : (value 10 0 (codes "12_000") ≡ 12000) × (value 16 0 (codes "Ff") ≡ 255)
values = (refl, refl)
