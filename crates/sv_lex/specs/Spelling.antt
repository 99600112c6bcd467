-- How each kind of token is spelled, as a test of the whole text of one token (IEEE 1800-2017 clause 5).
use Rattle.std.specs.Prelude.{ℕ, Bool, true, false, not, ◌&&◌, ◌||◌, if◌then◌else◌, ◌==◌, nat_le, List, [], ◌∷◌, Option, Some, None, map}
use Rattle.std.specs.List.{list_any, list_all}
use Rattle.std.specs.Str.{bytes_eq}
use Rattle.std.specs.Char.{is_ascii_digit, is_ascii_alphabetic}
use Rattle.sv_tree.specs.declared.token.TokenKind.{TokenKind}
use Rattle.sv_tree.specs.declared.token.TokenKind.TheVariants as kind
use Rattle.sv_lex.specs.declared.table.TheConstants.{WORDS, MARKS_1, MARKS_2, MARKS_3}

abbrev pub Bytes : Type 0
Bytes = List ℕ

abbrev pub is_empty : Bytes → Bool
is_empty [] = true
is_empty (b ∷ t) = false

-- ---- white space and comments (5.3, 5.4)

-- space, tab, line feed, carriage return, form feed
abbrev pub is_blank : ℕ → Bool
is_blank b = b == 32 || b == 9 || b == 10 || b == 13 || b == 12

abbrev pub is_not_line_feed : ℕ → Bool
is_not_line_feed b = not (b == 10)

-- what follows the `/*`: the first `*/` in it is its end
abbrev pub ends_comment : Bytes → Bool
ends_comment [] = false
ends_comment (b ∷ []) = false
ends_comment (b ∷ c ∷ t) = if b == 42 && c == 47 then is_empty t else ends_comment (c ∷ t)

-- what follows the first slash of a comment
abbrev pub after_slash : Bytes → Bool
after_slash [] = false
after_slash (b ∷ t) = if b == 47 then list_all is_not_line_feed t else (if b == 42 then ends_comment t else false)

-- ---- names and reserved words (5.6)

abbrev pub is_letter : ℕ → Bool
is_letter b = is_ascii_alphabetic b || b == 95

-- a letter, a digit, `_` or `$`
abbrev pub is_name_byte : ℕ → Bool
is_name_byte b = is_letter b || is_ascii_digit b || b == 36

abbrev pub is_name : Bytes → Bool
is_name [] = false
is_name (b ∷ t) = is_letter b && list_all is_name_byte t

abbrev pub has_text : List Bytes → Bytes → Bool
has_text [] text = false
has_text (w ∷ more) text = bytes_eq w text || has_text more text

unfoldable pub is_word : Bytes → Bool
is_word = has_text (map (λ w. w.now) WORDS)

-- ---- numbers (5.7.1)

abbrev pub is_decimal_byte : ℕ → Bool
is_decimal_byte b = is_ascii_digit b || b == 95

-- a digit, a to f, x, z, `?` or `_`
abbrev pub is_based_byte : ℕ → Bool
is_based_byte b = is_ascii_digit b || (nat_le 97 b && nat_le b 102) || (nat_le 65 b && nat_le b 70) || b == 120 || b == 122 || b == 88 || b == 90 || b == 63 || b == 95

-- b, o, d, h
abbrev pub is_base : ℕ → Bool
is_base b = b == 98 || b == 111 || b == 100 || b == 104 || b == 66 || b == 79 || b == 68 || b == 72

-- s
abbrev pub is_sign : ℕ → Bool
is_sign b = b == 115 || b == 83

-- what follows the `'` and the `s` of a number with a base
abbrev pub after_sign : Bytes → Bool
after_sign [] = false
after_sign (b ∷ t) = is_base b && list_all is_based_byte t

-- what follows the `'` of a number with a base
abbrev pub after_quote : Bytes → Bool
after_quote [] = false
after_quote (b ∷ t) = if is_sign b then after_sign t else after_sign (b ∷ t)

-- what follows the `'` of a literal that fills its context
abbrev pub is_fill : Bytes → Bool
is_fill [] = false
is_fill (b ∷ t) = (b == 48 || b == 49) && is_empty t

-- ---- strings (5.9)

-- what follows a byte of a string: the first `"` on the line with no `\` before it is its end
abbrev pub closes : ℕ → Bytes → Bool
closes before [] = false
closes before (b ∷ t) = if b == 10 then false else (if b == 34 && not (before == 92) then is_empty t else closes b t)

-- ---- operators and punctuation (5.5)

abbrev pub has_pair : List ℕ → ℕ → ℕ → Bool
has_pair [] a b = false
has_pair (x ∷ []) a b = false
has_pair (x ∷ y ∷ more) a b = (x == a && y == b) || has_pair more a b

abbrev pub has_triple : List ℕ → ℕ → ℕ → ℕ → Bool
has_triple [] a b c = false
has_triple (x ∷ []) a b c = false
has_triple (x ∷ y ∷ []) a b c = false
has_triple (x ∷ y ∷ z ∷ more) a b c = (x == a && y == b && z == c) || has_triple more a b c

unfoldable pub is_mark_1 : ℕ → Bool
is_mark_1 a = list_any (λ x. x == a) MARKS_1.now

unfoldable pub is_mark_2 : ℕ → ℕ → Bool
is_mark_2 = has_pair MARKS_2.now

unfoldable pub is_mark_3 : ℕ → ℕ → ℕ → Bool
is_mark_3 = has_triple MARKS_3.now

abbrev pub is_mark : Bytes → Bool
is_mark [] = false
is_mark (a ∷ []) = is_mark_1 a
is_mark (a ∷ b ∷ []) = is_mark_2 a b
is_mark (a ∷ b ∷ c ∷ []) = is_mark_3 a b c
is_mark (a ∷ b ∷ c ∷ d ∷ more) = false

-- ---- the whole

-- what a text spells: nothing, or something that is skipped, or a token of a kind
abbrev pub Spells : Type 0
Spells = Option (Option TokenKind)

abbrev pub token_if : Bool → TokenKind → Spells
token_if test k = if test then Some (Some k) else None

abbrev pub skipped_if : Bool → Spells
skipped_if test = if test then Some None else None

-- what the whole text spells, by its first byte: a letter, a digit, `'`, `"`, `$`, a backquote, a blank, `/`, or another
abbrev pub spelling : Bytes → Spells
spelling [] = None
spelling (b ∷ t) =
    if is_letter b then token_if (list_all is_name_byte t) (if is_word (b ∷ t) then kind.Word else kind.Name)
    else (if is_ascii_digit b then token_if (list_all is_decimal_byte t) kind.Decimal
    else (if b == 39 then (if is_fill t then Some (Some kind.Fill) else token_if (after_quote t) kind.Based)
    else (if b == 34 then token_if (closes 0 t) kind.Text
    else (if b == 36 then token_if (is_name t) kind.System
    else (if b == 96 then token_if (is_name t) kind.Directive
    else (if is_blank b then skipped_if (is_empty t)
    else (if b == 47 && after_slash t then Some None
    else token_if (is_mark (b ∷ t)) kind.Mark)))))))
