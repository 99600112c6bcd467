-- What stands at the front, found by one walk over the bytes, as the code finds it; proved equal to `front` of specs/Cut.antt.
use Rattle.std.specs.Prelude.{ℕ, ◌+◌, Bool, not, ◌&&◌, ◌||◌, if◌then◌else◌, ◌==◌, [], ◌∷◌, take, Option, Some, None}
use Rattle.std.specs.List.{prefix_len}
use Rattle.std.specs.Char.{is_ascii_digit}
use Rattle.sv_tree.specs.declared.token.TokenKind.{TokenKind}
use Rattle.sv_tree.specs.declared.token.TokenKind.TheVariants as kind
use Rattle.sv_lex.specs.declared.piece.Class.{Class}
use Rattle.sv_lex.specs.declared.piece.Class.TheVariants as class
use Rattle.sv_lex.specs.declared.piece.Piece.{Piece}
use Rattle.sv_lex.specs.declared.piece.Piece.TheVariants.{Skipped, Spelled, Wrong}
use Rattle.sv_lex.specs.declared.piece.Defect.TheVariants as defect
use Rattle.sv_lex.specs.Spelling.{Bytes, is_letter, is_name_byte, is_decimal_byte, is_based_byte, is_not_line_feed, is_base, is_sign, is_blank, is_word, is_mark_1, is_mark_2, is_mark_3}

abbrev pub is_in : Class → ℕ → Bool
is_in class.Named = is_name_byte
is_in class.Decimal = is_decimal_byte
is_in class.Based = is_based_byte
is_in class.Line = is_not_line_feed

-- how many bytes at the front are of the class
abbrev pub run : Class → Bytes → ℕ
run c t = prefix_len (is_in c) t

abbrev pub word : Bytes → Piece
word [] = Wrong defect.BadChar
word (b ∷ t) = Spelled (if is_word (take (run class.Named t + 1) (b ∷ t)) then kind.Word else kind.Name) (run class.Named t + 1)

-- a name after one byte
abbrev pub marked : TokenKind → Bytes → Piece
marked k [] = Wrong defect.BadChar
marked k (b ∷ t) = if is_letter b then Spelled k (run class.Named t + 2) else Wrong defect.BadChar

-- a base and digits, after some bytes
abbrev pub based : ℕ → Bytes → Piece
based before [] = Wrong defect.BadChar
based before (b ∷ t) = if is_base b then Spelled kind.Based (run class.Based t + (before + 1)) else Wrong defect.BadChar

abbrev pub quoted : Bytes → Piece
quoted [] = Wrong defect.BadChar
quoted (b ∷ t) = if b == 48 || b == 49 then Spelled kind.Fill 2 else (if is_sign b then based 2 t else based 1 (b ∷ t))

-- how many bytes up to and with the closing quote, past those that were counted
abbrev pub closing : ℕ → ℕ → Bytes → Option ℕ
closing count before [] = None
closing count before (b ∷ t) = if b == 10 then None else (if b == 34 && not (before == 92) then Some (count + 1) else closing (count + 1) b t)

abbrev pub comment_end : ℕ → Bytes → Option ℕ
comment_end count [] = None
comment_end count (b ∷ []) = None
comment_end count (b ∷ c ∷ t) = if b == 42 && c == 47 then Some (count + 2) else comment_end (count + 1) (c ∷ t)

abbrev pub text_by : Option ℕ → Piece
text_by None = Wrong defect.OpenString
text_by (Some n) = Spelled kind.Text n

abbrev pub comment_by : Option ℕ → Piece
comment_by None = Wrong defect.OpenComment
comment_by (Some n) = Skipped n

abbrev pub mark_len : Bytes → ℕ
mark_len [] = 0
mark_len (a ∷ []) = if is_mark_1 a then 1 else 0
mark_len (a ∷ b ∷ []) = if is_mark_2 a b then 2 else (if is_mark_1 a then 1 else 0)
mark_len (a ∷ b ∷ c ∷ t) = if is_mark_3 a b c then 3 else (if is_mark_2 a b then 2 else (if is_mark_1 a then 1 else 0))

abbrev pub mark : Bytes → Piece
mark z = if mark_len z == 0 then Wrong defect.BadChar else Spelled kind.Mark (mark_len z)

abbrev pub slash : Bytes → Piece
slash [] = mark (47 ∷ [])
slash (b ∷ t) = if b == 47 then Skipped (run class.Line t + 2) else (if b == 42 then comment_by (comment_end 2 t) else mark (47 ∷ b ∷ t))

unfoldable pub scan : Bytes → Piece
scan [] = Wrong defect.BadChar
scan (b ∷ t) =
    if is_letter b then word (b ∷ t)
    else (if is_ascii_digit b then Spelled kind.Decimal (run class.Decimal t + 1)
    else (if b == 39 then quoted t
    else (if b == 34 then text_by (closing 1 0 t)
    else (if b == 36 then marked kind.System t
    else (if b == 96 then marked kind.Directive t
    else (if is_blank b then Skipped 1
    else (if b == 47 then slash t
    else mark (b ∷ t))))))))
