-- What a walk over what is written meets, and which expressions may be written (IEEE 1800-2017 A.8.5).
use Rattle.std.specs.Prelude.{ℕ, Bool, true, false, ◌&&◌, List, ◌∷◌, ◌++◌, map}
use Rattle.std.specs.List.{flat_map, list_all}
use Rattle.sv_tree.specs.declared.tree.expr.Expr.{Expr}
use Rattle.sv_tree.specs.declared.tree.expr.Step.{Step}
use Rattle.sv_tree.specs.declared.tree.expr.Args.TheOpen.{Expr-F, Step-F}
use Rattle.sv_tree.specs.declared.tree.expr.Args.TheFolds as folds
use Rattle.sv_tree.specs.declared.tree.stmt.Lvalue.{Lvalue}
use Rattle.sv_tree.specs.declared.tree.stmt.Lvalue.TheFolds as lvalues
use Rattle.sv_tree.specs.declared.tree.stmt.Lvalue.TheOpen.{Lvalue-F, LvalueStep-F}
use Rattle.sv_tree.specs.declared.tree.stmt.LvalueStep.{LvalueStep}
use Rattle.sv_walk.specs.Events.{Event, Written, select_events}

-- ---- what is assigned

module _ (names : List (List ℕ)) where
  abbrev pub lvalue_layer : Lvalue-F (List Event) (List Event) → List Event
  lvalue_layer (Lvalue-F.Name name selects) = Written name selects ∷ select_events names selects false
  lvalue_layer (Lvalue-F.Concat opens first more closes) = first ++ flat_map (λ part. part) more

  abbrev pub lvalue_step_layer : LvalueStep-F (List Event) (List Event) → List Event
  lvalue_step_layer x = x.target

  unfoldable pub lvalue_events : Lvalue → List Event
  lvalue_events = lvalues.fold-Lvalue (List Event) (List Event) lvalue_layer lvalue_step_layer

  unfoldable pub lvalue_step_events : LvalueStep → List Event
  lvalue_step_events = lvalues.fold-LvalueStep (List Event) (List Event) lvalue_layer lvalue_step_layer

-- ---- which expressions may be written: a name with selects, or a brace of such

abbrev pub is_target_layer : Expr-F (Unit {0}) Bool (Unit {0}) (Unit {0}) Bool → Bool
is_target_layer (Expr-F.Name name selects) = true
is_target_layer (Expr-F.Concat opens first more closes) = first && list_all (λ part. part) more
is_target_layer _ = false

abbrev pub step_target_layer : Step-F (Unit {0}) Bool (Unit {0}) (Unit {0}) Bool → Bool
step_target_layer x = x.operand

unfoldable pub is_target : Expr → Bool
is_target = folds.fold-Expr (Unit {0}) Bool (Unit {0}) (Unit {0}) Bool (λ x. tt) is_target_layer (λ x. tt) (λ x. tt) step_target_layer

unfoldable pub is_step_target : Step → Bool
is_step_target = folds.fold-Step (Unit {0}) Bool (Unit {0}) (Unit {0}) Bool (λ x. tt) is_target_layer (λ x. tt) (λ x. tt) step_target_layer

-- those of a brace after the first
abbrev pub step_targets : List Step → Bool
step_targets more = list_all (λ part. part) (map is_step_target more)
