-- Which spellings of numbers are numbers (IEEE 1800-2017 5.7.1, without x, z and `?`).
use Rattle.std.specs.Prelude.{ℕ, ◌+◌, ◌-◌, ◌*◌, ◌^◌, Bool, true, false, not, ◌&&◌, ◌||◌, if◌then◌else◌, ◌==◌, nat_le, nat_lt, List, [], ◌∷◌, get_or}
use Rattle.std.specs.List.{list_any}
use Rattle.std.specs.Char.{is_ascii_digit}
use Rattle.sv_tree.specs.declared.token.TokenKind.{TokenKind}
use Rattle.sv_tree.specs.declared.token.TokenKind.TheVariants as kind
use Rattle.sv_tree.specs.declared.token.Token.{Token}
use Rattle.sv_lex.specs.Spelling.{Bytes, is_sign}

-- the value of a digit, or a number that is none in any base
abbrev pub digit : ℕ → ℕ
digit b = if is_ascii_digit b then b - 48 else (if nat_le 97 b && nat_le b 102 then b - 87 else (if nat_le 65 b && nat_le b 70 then b - 55 else 16))

abbrev pub is_digit_of : ℕ → ℕ → Bool
is_digit_of base b = b == 95 || nat_lt (digit b) base

-- the digits read after the number so far, `_` skipped
abbrev pub value : ℕ → ℕ → Bytes → ℕ
value base sum [] = sum
value base sum (b ∷ t) = if b == 95 then value base sum t else value base (sum * base + digit b) t

-- it fits in 128 bits
abbrev pub is_small : ℕ → Bool
is_small n = nat_lt n (2 ^ 128)

abbrev pub each_digit : ℕ → Bytes → Bool
each_digit base [] = true
each_digit base (b ∷ t) = is_digit_of base b && each_digit base t

abbrev pub is_no_underscore : ℕ → Bool
is_no_underscore b = not (b == 95)

-- some digit, all of the base, and a value that fits
abbrev pub is_digits : ℕ → Bytes → Bool
is_digits base t = list_any is_no_underscore t && each_digit base t && is_small (value base 0 t)

-- b, o, d, h
abbrev pub base_of : ℕ → ℕ
base_of b = if b == 98 || b == 66 then 2 else (if b == 111 || b == 79 then 8 else (if b == 100 || b == 68 then 10 else 16))

-- `'`, perhaps s, a base and its digits
abbrev pub is_based : Bytes → Bool
is_based [] = false
is_based (quote ∷ []) = false
is_based (quote ∷ a ∷ []) = false
is_based (quote ∷ a ∷ b ∷ t) = if is_sign a then is_digits (base_of b) t else is_digits (base_of a) (b ∷ t)

abbrev pub is_number : TokenKind → Bytes → Bool
is_number kind.Decimal t = is_digits 10 t
is_number kind.Based t = is_based t
is_number _ t = true

-- whether the token is no number, though its kind says one
abbrev pub is_no_number : List Bytes → Token → Bool
is_no_number names t = not (is_number t.kind (get_or names t.name.0 []))
