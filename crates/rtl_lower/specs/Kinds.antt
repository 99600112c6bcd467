-- What the parts of a flat design have from where they stand: contexts, and the things that names denote.
use Rattle.std.specs.Prelude.{ℕ, Bool, true, false, List, Option, Some, None}
use Rattle.vs_base.specs.declared.types.ValueType.{ValueType}
use Rattle.scope_table.specs.Scopes.{Scopes, meaning_here, declared, entered}
use Rattle.sv_tree.specs.declared.tree.stmt.LoopHead.{LoopHead}
use Rattle.sv_expr.specs.declared.scope.Denoted.{Denoted}
use Rattle.sv_expr.specs.declared.scope.Denoted.TheVariants as denoted
use Rattle.sv_expr.specs.Environment.{Environment, as_constant, as_variable, as_memory, as_import}
use Rattle.rtl_ir.specs.declared.expr.Expr.{Expr}
use Rattle.rtl_ir.specs.declared.expr.Target.{Target, out-Target, roll-Target}
use Rattle.rtl_lower.specs.declared.inside.Inside.{Inside}
use Rattle.rtl_lower.specs.declared.kind.Kind.{Kind}

-- a context as a type
abbrev pub type_of : Kind → ValueType
type_of kind = record { width = kind.width; signed = kind.signed }

-- the type of an expression of the design
abbrev pub type_in : Expr → ValueType
type_in e = record { width = e.width; signed = e.signed }

-- the type of a name without a select: that of a constant or a variable
abbrev pub kind_denoted : Denoted → Option ValueType
kind_denoted (denoted.Constant fixed) = Some fixed.kind
kind_denoted (denoted.Turn fixed) = Some fixed.kind
kind_denoted (denoted.Variable d) = Some d.kind
kind_denoted (denoted.Memory d) = None
kind_denoted (denoted.Import d) = None
kind_denoted denoted.Nothing = None

-- a thing of the design: whether it is a memory, and its number among the memories or the variables
pub record Thing : Type 0 where
  pub mem : Bool
  pub item : ℕ

-- the variable or the memory that a name denotes
abbrev pub thing_denoted : Denoted → Option Thing
thing_denoted (denoted.Variable d) = Some (record { mem = false; item = d.item })
thing_denoted (denoted.Memory d) = Some (record { mem = true; item = d.item })
thing_denoted (denoted.Constant fixed) = None
thing_denoted (denoted.Turn fixed) = None
thing_denoted (denoted.Import d) = None
thing_denoted denoted.Nothing = None

-- what a target reads or writes a part of
abbrev pub thing_of : Target → Thing
thing_of t = record { mem = (out-Target t).mem; item = (out-Target t).item }

-- a whole variable
abbrev pub variable_of : ℕ → Target
variable_of var = roll-Target (record { mem = false; item = var; element = None; select = None; whole = true })

-- what names of these texts denote by a table
unfoldable pub environment_of : List (List ℕ) → Scopes Denoted → Environment
environment_of texts table = record {
  texts = texts;
  constant = λ name. as_constant (meaning_here table name);
  variable = λ name. as_variable (meaning_here table name);
  memory = λ name. as_memory (meaning_here table name);
  imported = λ name. as_import (meaning_here table name);
}

-- what names denote where statements stand
abbrev pub environment_in : Inside → Environment
environment_in inside = environment_of inside.names.now inside.table

-- the scope of a turn of a loop, in which the loop's variable denotes a value (IEEE 1800-2017 12.7.1, 27.4)
abbrev pub in_turn : LoopHead → Denoted → Scopes Denoted → Scopes Denoted
in_turn head value table = declared head.start.name.name.0 value (entered table)
