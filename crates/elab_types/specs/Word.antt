-- Types that a word names (IEEE 1800-2017 6.11, 35.5.5).
use Rattle.std.specs.Prelude.{ℕ, Bool, true, false, List, Option, Some, None}
use Rattle.vs_base.specs.declared.types.ValueType.{ValueType}
use Rattle.sv_tree.specs.declared.symbol.Symbol.{Symbol}
use Rattle.sv_tree.specs.declared.symbol.Symbol.TheVariants as sym
use Rattle.sv_tree.specs.declared.token.Token.{Token}
use Rattle.sv_tree.specs.declared.tree.words.WordType.{WordType}
use Rattle.sv_tree.specs.Spelling.{symbol_of}
use Rattle.sv_expr.specs.Bound.{bit}

-- the bits of a word that has more than one
abbrev pub fixed_width : Symbol → Option ℕ
fixed_width sym.Byte = Some 8
fixed_width sym.Shortint = Some 16
fixed_width sym.Int = Some 32
fixed_width sym.Integer = Some 32
fixed_width sym.Longint = Some 64
fixed_width _ = None

abbrev pub says_signed : Symbol → Bool
says_signed sym.Signed = true
says_signed _ = false

abbrev pub is_signed : List (List ℕ) → Token → Bool
is_signed texts sign = says_signed (symbol_of texts sign)

-- without a sign a vector has none
abbrev pub has_sign : List (List ℕ) → Option Token → Bool
has_sign texts None = false
has_sign texts (Some sign) = is_signed texts sign

-- without a sign a word of more than one bit has one
abbrev pub keeps_sign : List (List ℕ) → Option Token → Bool
keeps_sign texts None = true
keeps_sign texts (Some sign) = is_signed texts sign

abbrev pub sized : Option ℕ → Bool → ValueType
sized None signed = bit
sized (Some width) signed = record { width = width; signed = signed }

abbrev pub word_kind : List (List ℕ) → WordType → ValueType
word_kind texts word = sized (fixed_width (symbol_of texts word.word)) (keeps_sign texts word.sign)

abbrev pub unless_void : Symbol → ValueType → Option ValueType
unless_void sym.Void kind = None
unless_void _ kind = Some kind

abbrev pub result_kind : List (List ℕ) → WordType → Option ValueType
result_kind texts word = unless_void (symbol_of texts word.word) (word_kind texts word)
