-- Types, faults and values of small expressions, layer by layer.
use Rattle.std.specs.Prelude.{◌≡◌, ℕ, Bool, true, false, List, [], ◌∷◌, Some, None, codes, refl, pos}
use Rattle.vs_base.specs.declared.types.ValueType.{ValueType}
use Rattle.vs_base.specs.declared.origin.Origin.{Origin}
use Rattle.vs_base.specs.Operators as operators
use Rattle.std.specs.Int.Count.{count_leading_zeros}
use Rattle.sv_tree.specs.declared.symbol.Symbol.{Symbol}
use Rattle.sv_tree.specs.declared.symbol.Symbol.TheVariants as sym
use Rattle.sv_tree.specs.declared.token.Token.{Token}
use Rattle.sv_tree.specs.declared.token.TokenKind.TheVariants as kind
use Rattle.sv_tree.specs.declared.tree.expr.Args.TheOpen.{Expr-F}
use Rattle.sv_expr.specs.declared.fault.WalkFault.TheVariants.{TooWide, BadRange}
use Rattle.sv_expr.specs.Environment.{Environment}
use Rattle.sv_expr.specs.Meaning.{Meaning, Operand, alone, level, prefix, choose, concatenated, expr_layer, system, own_reading}
use Rattle.sv_expr.specs.declared.operator.Function.TheVariants as function

-- ---- tokens by the places of their texts

texts : List (List ℕ)
texts =
    codes "2" ∷ codes "3" ∷ codes "4" ∷ codes "5" ∷ codes "7" ∷ codes "8" ∷ codes "9" ∷ codes "0" ∷ codes "128" ∷ codes "200"
    ∷ codes "'hf" ∷ codes "'h1" ∷ codes "'b101" ∷ codes "'sb101" ∷ codes "'sd128" ∷ codes "'sd1" ∷ codes "'h0" ∷ codes "'hff" ∷ codes "'1" ∷ codes "1" ∷ codes "4294967296" ∷ []

env : Environment
unfolding texts
env = record { texts = texts; constant = λ n. None; variable = λ n. None; memory = λ n. None; imported = λ n. None }

abbrev place : ℕ → Origin
place col = record { file = 0; line = 1; col = col }

abbrev token : ℕ → Token
token id = record { kind = kind.Decimal; name = record { 0 = id }; at = place id }

abbrev decimal : ℕ → Meaning
decimal id = expr_layer env (Expr-F.Decimal (token id))

abbrev sized : ℕ → ℕ → Meaning
sized size digits = expr_layer env (Expr-F.Sized (token size) (token digits))

abbrev fill : ℕ → Meaning
fill id = expr_layer env (Expr-F.Fill (token id))

abbrev after : Symbol → Meaning → Operand
after s m = record { symbol = s; operand = m }

abbrev type : ℕ → Bool → ValueType
type width signed = record { width = width; signed = signed }

-- the type, no fault, and the value in the own type
record Is (m : Meaning) (width : ℕ) (signed : Bool) (value : ℕ) : Type 0 where
  own : m.typed.kind ≡ type width signed
  fine : m.typed.fault ≡ None
  number : alone m ≡ record { width = width; value = value }

-- ---- values

-- -7 / 2
division : Is (level (prefix (sym.Minus ∷ []) (decimal 4)) (after sym.Slash (decimal 0) ∷ [])) 32 true 0xfffffffd
unfolding env texts
division = record { own = refl; fine = refl; number = refl }

-- 4'hf + 4'h1
carry_lost : Is (level (sized 2 10) (after sym.Plus (sized 2 11) ∷ [])) 4 false 0
unfolding env texts
carry_lost = record { own = refl; fine = refl; number = refl }

-- 3'b101 >>> 1 and 3'sb101 >>> 1
shift_unsigned : Is (level (sized 1 12) (after sym.ArithRight (decimal 19) ∷ [])) 3 false 2
unfolding env texts
shift_unsigned = record { own = refl; fine = refl; number = refl }

shift_signed : Is (level (sized 1 13) (after sym.ArithRight (decimal 19) ∷ [])) 3 true 6
unfolding env texts
shift_signed = record { own = refl; fine = refl; number = refl }

-- {2{3'b101}}
replication : Is (expr_layer env (Expr-F.Repeat (token 30) (decimal 0) (token 31) (sized 1 12) [] (token 32) (token 33))) 6 false 0x2d
unfolding env texts operators.repeated
replication = record { own = refl; fine = refl; number = refl }

-- $clog2(9)
ceiling : Is (system function.CeilingLog (decimal 6)) 32 true 4
unfolding env texts count_leading_zeros
ceiling = record { own = refl; fine = refl; number = refl }

-- -8'sd128 / -8'sd1
least_by_minus_one : Is (level (prefix (sym.Minus ∷ []) (sized 5 14)) (after sym.Slash (prefix (sym.Minus ∷ []) (sized 5 15)) ∷ [])) 8 true 0x80
unfolding env texts
least_by_minus_one = record { own = refl; fine = refl; number = refl }

-- 5 % 0
remainder_by_zero : Is (level (decimal 3) (after sym.Percent (decimal 7) ∷ [])) 32 true 0
unfolding env texts
remainder_by_zero = record { own = refl; fine = refl; number = refl }

-- ---- contexts, signs and grouping

abbrev in_bits : ℕ → Bool → Meaning → ℕ
in_bits width signed m = (m.value (type width signed)).value

-- (8'hff + 8'h1) >> 1 in 8 bits loses the carry, in 9 bits it keeps it
shifted_sum : Meaning
shifted_sum = level (level (sized 5 17) (after sym.Plus (sized 5 11) ∷ [])) (after sym.ShiftRight (decimal 19) ∷ [])

carries : (in_bits 8 false shifted_sum ≡ 0) × (in_bits 9 false shifted_sum ≡ 0x80)
unfolding env texts shifted_sum
carries = (refl, refl)

-- 3'sb101 + 4'h0: one unsigned operand, so that the other is extended by zeros
mixed_signs : Is (level (sized 1 13) (after sym.Plus (sized 2 16) ∷ [])) 4 false 5
unfolding env texts
mixed_signs = record { own = refl; fine = refl; number = refl }

-- 3'sb101 < 0 compares signed, 3'sb101 < 4'h0 does not
signed_comparison : Is (level (sized 1 13) (after sym.Less (decimal 7) ∷ [])) 1 false 1
unfolding env texts
signed_comparison = record { own = refl; fine = refl; number = refl }

unsigned_comparison : Is (level (sized 1 13) (after sym.Less (sized 2 16) ∷ [])) 1 false 0
unfolding env texts
unsigned_comparison = record { own = refl; fine = refl; number = refl }

-- 3 > 2 > 1 compares one bit with 1
chain_of_comparisons : Is (level (decimal 1) (after sym.Greater (decimal 0) ∷ after sym.Greater (decimal 19) ∷ [])) 1 false 0
unfolding env texts
chain_of_comparisons = record { own = refl; fine = refl; number = refl }

-- 9 - 4 - 3
groups_from_the_left : Is (level (decimal 6) (after sym.Minus (decimal 2) ∷ after sym.Minus (decimal 1) ∷ [])) 32 true 2
unfolding env texts
groups_from_the_left = record { own = refl; fine = refl; number = refl }

-- a fill is as wide as its context: 8'hff == '1, {'1}, and $signed('1) in 8 bits
fills : (alone (level (sized 5 17) (after sym.EqualEqual (fill 18) ∷ [])) ≡ record { width = 1; value = 1 })
    × (in_bits 8 false (concatenated (token 30) None (pos 1) (fill 18) []) ≡ 1)
    × (in_bits 8 true (system function.Signed (fill 18)) ≡ 0xff)
unfolding env texts operators.repeated
fills = (refl, refl, refl)

-- ~3'b101 ? 3'sb101 : 4'h0: the branches are unsigned, the condition stands alone
choice : Is (choose (record { test = prefix (sym.Tilde ∷ []) (sized 1 12); value = sized 1 13 } ∷ []) (sized 2 16)) 4 false 5
unfolding env texts
choice = record { own = refl; fine = refl; number = refl }

-- ---- first faults

-- ^{200'h0} is too wide at the literal
first_fault : (prefix (sym.Caret ∷ []) (concatenated (token 30) None (pos 1) (sized 9 16) [])).typed.fault ≡ Some (TooWide (place 9))
unfolding env texts
first_fault = refl

-- {n{part}}
abbrev repeat : Meaning → Meaning → Meaning
repeat count part = concatenated (token 30) count.typed.fault (own_reading count) part []

-- {0{200'h0}} is too wide in its part, {0{3'b101}} and {3'sb101{3'b101}} have a bad count, {128{3'b101}} is too wide at the brace
counts : ((repeat (decimal 7) (sized 9 16)).typed.fault ≡ Some (TooWide (place 9)))
    × ((repeat (decimal 7) (sized 1 12)).typed.fault ≡ Some (BadRange (place 30)))
    × ((repeat (sized 1 13) (sized 1 12)).typed.fault ≡ Some (BadRange (place 30)))
    × ((repeat (decimal 8) (sized 1 12)).typed.fault ≡ Some (TooWide (place 30)))
unfolding env texts
counts = (refl, refl, refl, refl)

-- 4294967296 without a size, and a size of 0
too_wide : ((decimal 20).typed.fault ≡ Some (TooWide (place 20))) × ((sized 7 16).typed.fault ≡ Some (TooWide (place 7)))
unfolding env texts
too_wide = (refl, refl)
