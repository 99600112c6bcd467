-- The values of constant expressions that are assigned (IEEE 1800-2017 10.7, 11.6.1).
use Rattle.std.specs.Prelude.{ℕ, true}
use Rattle.vs_base.specs.declared.types.ValueType.{ValueType}
use Rattle.vs_base.specs.Number.{Number}
use Rattle.sv_tree.specs.declared.tree.expr.Expr.{Expr}
use Rattle.vs_base.specs.Types.{assigned_in, in_context}
use Rattle.sv_expr.specs.declared.scope.Fixed.{Fixed}
use Rattle.sv_expr.specs.Bound.{unsigned}
use Rattle.sv_expr.specs.Environment.{Environment}
use Rattle.sv_expr.specs.Meaning.{TypeOf, ValueOf}

abbrev pub cut_to : ℕ → Number → Number
cut_to width n = in_context n (unsigned width)

-- in a context as wide as the wider of both sides, then cut
abbrev pub assigned : Environment → Expr → ℕ → Number
assigned env e width = cut_to width (ValueOf env e (assigned_in (TypeOf env e) width))

-- genvars and loop variables have 32 bits and a sign (27.4)
abbrev pub counter : ValueType
counter = record { width = 32; signed = true }

-- a value with its type
pub record Valued : Type 0 where
  pub kind : ValueType
  pub value : Number

abbrev pub valued : Fixed → Valued
valued fixed = record { kind = fixed.kind; value = fixed.value }

abbrev pub counted : Number → Valued
counted n = record { kind = counter; value = n }
