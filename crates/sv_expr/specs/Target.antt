-- The width of the target of an assignment (IEEE 1800-2017 10.3, 11.4.12): of a name with selects as in an expression, of a concatenation the sum of its parts.
use Rattle.std.specs.Prelude.{ℕ, ◌+◌, List, [], ◌∷◌, map, fold, Option}
use Rattle.vs_base.specs.declared.types.ValueType.{ValueType}
use Rattle.sv_tree.specs.declared.tree.stmt.Lvalue.{Lvalue}
use Rattle.sv_tree.specs.declared.tree.stmt.Lvalue.TheFolds as lvalues
use Rattle.sv_tree.specs.declared.tree.stmt.Lvalue.TheOpen.{Lvalue-F, LvalueStep-F}
use Rattle.sv_tree.specs.declared.tree.stmt.LvalueStep.{LvalueStep}
use Rattle.sv_expr.specs.declared.fault.WalkFault.{WalkFault}
use Rattle.sv_expr.specs.declared.typed.Typed.{Typed}
use Rattle.sv_expr.specs.Environment.{Environment}
use Rattle.sv_expr.specs.Bound.{◌before◌, bounded, unsigned}
use Rattle.sv_expr.specs.Meaning.{named, select_typed}
use Rattle.sv_expr.specs.Walk.{joined_typed}

abbrev pub total_width : List Typed → ℕ
total_width [] = 0
total_width (t ∷ more) = t.kind.width + total_width more

abbrev pub first_fault : Option WalkFault → List Typed → Option WalkFault
first_fault earlier parts = fold (λ f t. f before t.fault) earlier parts

module _ (env : Environment) where
  abbrev pub target_layer : Lvalue-F Typed Typed → Typed
  target_layer (Lvalue-F.Name name selects) = (named env name (map (select_typed env) selects)).typed
  target_layer (Lvalue-F.Concat opens first more closes) = bounded opens.at (first_fault first.fault more) (unsigned (first.kind.width + total_width more))

  abbrev pub step_layer : LvalueStep-F Typed Typed → Typed
  step_layer x = x.target

  unfoldable pub target_typed : Lvalue → Typed
  target_typed = lvalues.fold-Lvalue Typed Typed target_layer step_layer

  unfoldable pub step_typed : LvalueStep → Typed
  step_typed = lvalues.fold-LvalueStep Typed Typed target_layer step_layer

  abbrev pub TypeOfTarget : Lvalue → ValueType
  TypeOfTarget target = (target_typed target).kind

  abbrev pub FirstFaultOfTarget : Lvalue → Option WalkFault
  FirstFaultOfTarget target = (target_typed target).fault

  -- what the walk over the parts of a concatenation keeps
  abbrev pub targets_joined : Typed → List LvalueStep → Typed
  targets_joined first more = fold (λ t s. joined_typed t (target_typed s.target)) first more
