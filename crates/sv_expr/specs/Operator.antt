-- The operators by their marks (IEEE 1800-2017 11.3 and 11.4), and the types that they give (table 11-21).
use Rattle.std.specs.Prelude.{ℕ, Bool, true, false, if◌then◌else◌, List, codes}
use Rattle.std.specs.Str.{bytes_eq}
use Rattle.vs_base.specs.declared.types.ValueType.{ValueType}
use Rattle.vs_base.specs.Number.{Number, added, conjoined}
use Rattle.vs_base.specs.Operators.{subtracted, negated, multiplied, divided, remaining, disjoined, differing, inverted, agreeing, shifted_left, shifted_right, less, at_most, equal, unequal, negation, all_ones, some_one, odd_ones}
use Rattle.sv_tree.specs.declared.symbol.Symbol.{Symbol}
use Rattle.sv_tree.specs.declared.symbol.Symbol.TheVariants as sym
use Rattle.sv_expr.specs.declared.operator.Class.{Class}
use Rattle.sv_expr.specs.declared.operator.Class.TheVariants as class
use Rattle.sv_expr.specs.declared.operator.Function.{Function}
use Rattle.sv_expr.specs.declared.operator.Function.TheVariants as function
use Rattle.vs_base.specs.Types.{wider}
use Rattle.sv_expr.specs.Bound.{bit}

-- how an operator takes its operands; any mark that is none counts as an operator on both in the context
abbrev pub class_of : Symbol → Class
class_of sym.ShiftLeft = class.Shift
class_of sym.ShiftRight = class.Shift
class_of sym.ArithLeft = class.Shift
class_of sym.ArithRight = class.Shift
class_of sym.Less = class.Comparison
class_of sym.LessEqual = class.Comparison
class_of sym.Greater = class.Comparison
class_of sym.GreaterEqual = class.Comparison
class_of sym.EqualEqual = class.Comparison
class_of sym.BangEqual = class.Comparison
class_of sym.CaseEqual = class.Comparison
class_of sym.CaseUnequal = class.Comparison
class_of sym.AmpAmp = class.Conjunction
class_of sym.PipePipe = class.Disjunction
class_of _ = class.Arithmetic

-- the type of two operands
abbrev pub combined : Class → ValueType → ValueType → ValueType
combined class.Arithmetic a b = wider a b
combined class.Shift a b = a
combined _ a b = bit

-- both operands in one context
abbrev pub operated : Symbol → Bool → Number → Number → Number
operated sym.Plus signed a b = added a b
operated sym.Minus signed a b = subtracted a b
operated sym.Star signed a b = multiplied a b
operated sym.Slash signed a b = divided signed a b
operated sym.Percent signed a b = remaining signed a b
operated sym.Amp signed a b = conjoined a b
operated sym.Pipe signed a b = disjoined a b
operated sym.Caret signed a b = differing a b
operated sym.TildeCaret signed a b = agreeing a b
operated sym.CaretTilde signed a b = agreeing a b
operated _ signed a b = a

-- `>>>` brings the sign bit in only if the result is signed
abbrev pub shifted : Symbol → Bool → Number → Number → Number
shifted sym.ShiftLeft signed a count = shifted_left a count.value
shifted sym.ArithLeft signed a count = shifted_left a count.value
shifted sym.ShiftRight signed a count = shifted_right false a count.value
shifted sym.ArithRight signed a count = shifted_right signed a count.value
shifted _ signed a count = a

-- operands of one type; `===` and `!==` are `==` and `!=` at two states
abbrev pub compared : Symbol → Bool → Number → Number → Number
compared sym.Less signed a b = less signed a b
compared sym.LessEqual signed a b = at_most signed a b
compared sym.Greater signed a b = less signed b a
compared sym.GreaterEqual signed a b = at_most signed b a
compared sym.BangEqual signed a b = unequal a b
compared sym.CaseUnequal signed a b = unequal a b
compared _ signed a b = equal a b

-- an operator before its operand that gives one bit of an operand alone
abbrev pub is_reduction : Symbol → Bool
is_reduction sym.Bang = true
is_reduction sym.Amp = true
is_reduction sym.TildeAmp = true
is_reduction sym.Pipe = true
is_reduction sym.TildePipe = true
is_reduction sym.Caret = true
is_reduction sym.TildeCaret = true
is_reduction sym.CaretTilde = true
is_reduction _ = false

-- an operator before its operand
abbrev pub prefixed : Symbol → Number → Number
prefixed sym.Minus a = negated a
prefixed sym.Tilde a = inverted a
prefixed sym.Bang a = negation a
prefixed sym.Amp a = all_ones a
prefixed sym.TildeAmp a = inverted (all_ones a)
prefixed sym.Pipe a = some_one a
prefixed sym.TildePipe a = inverted (some_one a)
prefixed sym.Caret a = odd_ones a
prefixed sym.TildeCaret a = inverted (odd_ones a)
prefixed sym.CaretTilde a = inverted (odd_ones a)
prefixed _ a = a

-- the system functions by their spelling (20.5, 20.8.1)
abbrev pub function_of : List ℕ → Function
function_of text = if bytes_eq text (codes "$clog2") then function.CeilingLog else (if bytes_eq text (codes "$signed") then function.Signed else function.Unsigned)
