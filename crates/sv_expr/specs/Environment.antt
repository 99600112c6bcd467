-- What names denote where an expression stands (IEEE 1800-2017 6.20, 11.2.1, 23.9).
use Rattle.std.specs.Prelude.{ℕ, List, [], Option, Some, None, get_or}
use Rattle.vs_base.specs.declared.types.ValueType.{ValueType}
use Rattle.scope_table.specs.Scopes.{meaning_here}
use Rattle.sv_tree.specs.declared.token.Token.{Token}
use Rattle.sv_expr.specs.declared.scope.Fixed.{Fixed}
use Rattle.sv_expr.specs.declared.scope.Denoted.{Denoted}
use Rattle.sv_expr.specs.declared.scope.Denoted.TheVariants as denoted
use Rattle.sv_expr.specs.declared.scope.ScopeView.{ScopeView}

-- the texts of all tokens, and what a name denotes by its number: a constant, a variable of a type, a memory with elements of a type, or an import with a result of a type
pub record Environment : Type 0 where
  pub texts : List (List ℕ)
  pub constant : ℕ → Option Fixed
  pub variable : ℕ → Option ValueType
  pub memory : ℕ → Option ValueType
  pub imported : ℕ → Option ValueType

abbrev pub text : Environment → Token → List ℕ
text env t = get_or env.texts t.name.0 []

-- to types and values the variable of a loop is a constant in each turn
abbrev pub as_constant : Denoted → Option Fixed
as_constant (denoted.Constant fixed) = Some fixed
as_constant (denoted.Turn fixed) = Some fixed
as_constant _ = None

abbrev pub as_variable : Denoted → Option ValueType
as_variable (denoted.Variable d) = Some d.kind
as_variable _ = None

abbrev pub as_memory : Denoted → Option ValueType
as_memory (denoted.Memory d) = Some d.kind
as_memory _ = None

abbrev pub as_import : Denoted → Option ValueType
as_import (denoted.Import d) = Some d.kind
as_import _ = None

-- what a name denotes in a scope
abbrev pub denotes : ScopeView → ℕ → Denoted
denotes scope name = meaning_here scope.table.now name

-- what a view of a scope tells
abbrev pub environment : ScopeView → Environment
environment scope = record {
  texts = scope.names.now;
  constant = λ name. as_constant (denotes scope name);
  variable = λ name. as_variable (denotes scope name);
  memory = λ name. as_memory (denotes scope name);
  imported = λ name. as_import (denotes scope name);
}
