-- Numbers as they are spelled (IEEE 1800-2017 5.7.1). Which spellings are numbers stands beside the lexer.
use Rattle.std.specs.Prelude.{ℕ, ◌^◌, Bool, false, if◌then◌else◌, nat_lt, [], ◌∷◌, None, codes}
use Rattle.std.specs.Str.{bytes_eq}
use Rattle.vs_base.specs.declared.types.ValueType.{ValueType}
use Rattle.vs_base.specs.declared.origin.Origin.{Origin}
use Rattle.vs_base.specs.Number.{Number, kept}
use Rattle.vs_base.specs.Operators.{inverted}
use Rattle.sv_lex.specs.Spelling.{Bytes, is_sign}
use Rattle.sv_lex.specs.Number.{value, base_of}
use Rattle.sv_expr.specs.declared.fault.WalkFault.TheVariants.{TooWide}
use Rattle.sv_expr.specs.declared.typed.Typed.{Typed}
use Rattle.vs_base.specs.Types.{in_context}
use Rattle.sv_expr.specs.Bound.{fine, refused, bounded}

-- the number of decimal digits
abbrev pub decimal_number : Bytes → ℕ
decimal_number digits = value 10 0 digits

-- the number of a base and its digits, after `'` and perhaps a sign
abbrev pub based_number : Bytes → ℕ
based_number [] = 0
based_number (quote ∷ []) = 0
based_number (quote ∷ a ∷ []) = 0
based_number (quote ∷ a ∷ b ∷ digits) = if is_sign a then value (base_of b) 0 digits else value (base_of a) 0 (b ∷ digits)

-- whether s stands after the `'`
abbrev pub based_signed : Bytes → Bool
based_signed [] = false
based_signed (quote ∷ []) = false
based_signed (quote ∷ a ∷ digits) = is_sign a

-- a number without a size has 32 bits
abbrev pub without_size : Origin → ℕ → Bool → Typed
without_size at number signed = if nat_lt number (2 ^ 32) then fine (record { width = 32; signed = signed }) else refused None (TooWide at)

abbrev pub of_size : Origin → ℕ → Bool → Typed
of_size at size signed = bounded at None (record { width = size; signed = signed })

-- a number is cut to its size
abbrev pub literal_value : Typed → ℕ → ValueType → Number
literal_value typed number context = in_context (kept typed.kind.width number) context

abbrev pub nothing : ValueType → Number
nothing context = kept context.width 0

-- `'1` fills its context with ones, `'0` with zeros
abbrev pub fill_value : Bytes → ValueType → Number
fill_value text context = if bytes_eq text (codes "'1") then inverted (nothing context) else nothing context
