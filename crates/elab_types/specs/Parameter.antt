-- The types and the values of parameters (IEEE 1800-2017 6.20.1, 6.20.2, 23.2.3).
use Rattle.std.specs.Prelude.{Bool, Option, Some, None}
use Rattle.vs_base.specs.declared.types.ValueType.{ValueType}
use Rattle.sv_tree.specs.declared.token.Token.{Token}
use Rattle.sv_tree.specs.declared.tree.expr.Expr.{Expr}
use Rattle.sv_tree.specs.declared.tree.source.Parameter.{Parameter}
use Rattle.sv_tree.specs.declared.tree.words.DataType.{DataType}
use Rattle.sv_tree.specs.declared.tree.words.DataType.TheVariants.{Vector, Fixed, Signed, Ranged}
use Rattle.sv_expr.specs.declared.fault.WalkFault.{WalkFault}
use Rattle.sv_expr.specs.Environment.{Environment}
use Rattle.sv_expr.specs.Meaning.{TypeOf, ValueOf}
use Rattle.elab_types.specs.declared.kinds.ParameterType.{ParameterType}
use Rattle.elab_types.specs.declared.kinds.ParameterType.TheVariants as declared
use Rattle.elab_types.specs.Packed as packed
use Rattle.vs_base.specs.Types.{assigned_in, in_context}
use Rattle.elab_types.specs.Value.{Valued, assigned, cut_to}
use Rattle.elab_types.specs.Word.{is_signed}

-- what a parameter is declared with: nothing, a sign alone, or a type
pub data Sort : Type 0 where
  OfValue : Sort
  Sign : Bool → Sort
  Full : ValueType → Sort

abbrev pub sort : ParameterType → Sort
sort declared.OfValue = OfValue
sort (declared.Sign signed) = Sign signed
sort (declared.Full p) = Full p.kind

-- the same bits, read with another sign
abbrev pub with_sign : Valued → Bool → Valued
with_sign value signed = record { kind = record { width = value.kind.width; signed = signed }; value = value.value }

-- the value of a constant, assigned
abbrev pub converted : Sort → Valued → Valued
converted OfValue value = value
converted (Sign signed) value = with_sign value signed
converted (Full kind) value = record { kind = kind; value = cut_to kind.width (in_context value.value (assigned_in value.kind kind.width)) }

module _ (env : Environment) where
  -- a sign alone keeps the width of the value
  abbrev pub type_of : DataType → Sort
  type_of (Signed sign None) = Sign (is_signed env.texts sign)
  type_of (Signed sign (Some range)) = Full (packed.packed_of env (Signed sign (Some range))).kind
  type_of (Vector word sign range) = Full (packed.packed_of env (Vector word sign range)).kind
  type_of (Fixed word) = Full (packed.packed_of env (Fixed word)).kind
  type_of (Ranged range) = Full (packed.packed_of env (Ranged range)).kind

  abbrev pub fault_of : DataType → Option WalkFault
  fault_of kind = packed.fault_of env kind

  abbrev pub fault_if : Option DataType → Option WalkFault
  fault_if None = None
  fault_if (Some kind) = fault_of kind

  -- without a type a parameter has that of its value
  abbrev pub item_type : Option DataType → Sort
  item_type None = OfValue
  item_type (Some kind) = type_of kind

  -- with neither word nor type that of the entry before
  abbrev pub entry_by : Option DataType → Option Token → Sort → Sort
  entry_by (Some kind) word before_it = type_of kind
  entry_by None (Some word) before_it = OfValue
  entry_by None None before_it = before_it

  abbrev pub entry_type : Parameter → Sort → Sort
  entry_type entry before_it = entry_by entry.kind entry.word before_it

  -- a value in its own type
  abbrev pub own : Expr → Valued
  own e = record { kind = TypeOf env e; value = ValueOf env e (TypeOf env e) }

  abbrev pub value_of : Sort → Expr → Valued
  value_of OfValue e = own e
  value_of (Sign signed) e = with_sign (own e) signed
  value_of (Full kind) e = record { kind = kind; value = assigned env e kind.width }
