-- What may come first.
use Rattle.std.specs.Prelude.{Bool, true, false, ◌||◌}
use Rattle.sv_tree.specs.declared.symbol.Symbol.{Symbol}
use Rattle.sv_tree.specs.declared.symbol.Symbol.TheVariants as sym
use Rattle.sv_tree.specs.Symbol.{is_prefix, is_vector, is_fixed, is_sign, same}

-- a primary may begin with it (IEEE 1800-2017 A.8.4)
abbrev pub begins_primary : Symbol → Bool
begins_primary sym.Decimal = true
begins_primary sym.Based = true
begins_primary sym.Fill = true
begins_primary sym.Name = true
begins_primary sym.ParenOpen = true
begins_primary sym.BraceOpen = true
begins_primary sym.System = true
begins_primary _ = false

-- an expression may begin with it (A.8.3)
abbrev pub begins_expr : Symbol → Bool
begins_expr s = is_prefix s || begins_primary s

-- a type may begin with it (A.2.2.1)
abbrev pub begins_type : Symbol → Bool
begins_type s = (is_vector s || is_fixed s) || (is_sign s || same sym.BracketOpen s)
