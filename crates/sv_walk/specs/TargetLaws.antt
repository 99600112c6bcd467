-- The equations of what is met in what is written, and of which expressions may be written, one for each form.
use Rattle.std.proofs.Common.{◌≡◌, ℕ, Bool, true, false, List, map, sym, ap, ◌∙◌}
use Rattle.std.specs.Prelude.{◌&&◌}
use Rattle.sv_tree.specs.declared.token.Token.{Token}
use Rattle.sv_tree.specs.declared.tree.expr.Expr.{Expr}
use Rattle.sv_tree.specs.declared.tree.expr.Args.{Args}
use Rattle.sv_tree.specs.declared.tree.expr.Choice.{Choice}
use Rattle.sv_tree.specs.declared.tree.expr.Select.{Select}
use Rattle.sv_tree.specs.declared.tree.expr.Step.{Step, roll-Step}
use Rattle.sv_tree.specs.declared.tree.expr.Args.TheFolds.{fold-roll-Expr, fold-roll-Step}
use Rattle.sv_tree.specs.declared.tree.expr.Args.TheOpen.{Expr-F}
use Rattle.sv_tree.specs.declared.tree.expr.Expr.TheVariants as expr
use Rattle.sv_tree.specs.declared.tree.stmt.Lvalue.{Lvalue}
use Rattle.sv_tree.specs.declared.tree.stmt.Lvalue.TheFolds.{fold-roll-Lvalue, fold-roll-LvalueStep}
use Rattle.sv_tree.specs.declared.tree.stmt.Lvalue.TheOpen.{Lvalue-F}
use Rattle.sv_tree.specs.declared.tree.stmt.Lvalue.TheVariants as lvalue
use Rattle.sv_tree.specs.declared.tree.stmt.LvalueStep.{LvalueStep, roll-LvalueStep}
use Rattle.sv_walk.specs.Events.{Event}
use Rattle.sv_walk.specs.Targets.{lvalue_layer, lvalue_step_layer, lvalue_events, lvalue_step_events, is_target_layer, step_target_layer, is_target, is_step_target, step_targets}

module _ (names : List (List ℕ)) where
  pub lvalue-Name : (name : Token) (selects : List Select) → lvalue_events names (lvalue.Name name selects) ≡ lvalue_layer names (Lvalue-F.Name name selects)
  unfolding lvalue_events
  lvalue-Name name selects = ap (lvalue_events names) (sym (lvalue.rolls-Name name selects)) ∙ fold-roll-Lvalue (List Event) (List Event) (lvalue_layer names) (lvalue_step_layer names) (Lvalue-F.Name name selects)

  pub lvalue-Concat : (opens : Token) (first : Lvalue) (more : List LvalueStep) (closes : Token) → lvalue_events names (lvalue.Concat opens first more closes) ≡ lvalue_layer names (Lvalue-F.Concat opens (lvalue_events names first) (map (lvalue_step_events names) more) closes)
  unfolding lvalue_events lvalue_step_events
  lvalue-Concat opens first more closes = ap (lvalue_events names) (sym (lvalue.rolls-Concat opens first more closes)) ∙ fold-roll-Lvalue (List Event) (List Event) (lvalue_layer names) (lvalue_step_layer names) (Lvalue-F.Concat opens first more closes)

  pub lvalue_step-roll : (comma : Token) (target : Lvalue) → lvalue_step_events names (roll-LvalueStep (record { comma = comma; target = target })) ≡ lvalue_events names target
  unfolding lvalue_step_events lvalue_events
  lvalue_step-roll comma target = fold-roll-LvalueStep (List Event) (List Event) (lvalue_layer names) (lvalue_step_layer names) (record { comma = comma; target = target })

-- ---- which expressions may be written

pub target-Decimal : (t : Token) → is_target (expr.Decimal t) ≡ false
unfolding is_target is_step_target
target-Decimal t = ap is_target (sym (expr.rolls-Decimal t)) ∙ fold-roll-Expr (Unit {0}) Bool (Unit {0}) (Unit {0}) Bool (λ x. tt) is_target_layer (λ x. tt) (λ x. tt) step_target_layer (Expr-F.Decimal t)

pub target-Based : (t : Token) → is_target (expr.Based t) ≡ false
unfolding is_target is_step_target
target-Based t = ap is_target (sym (expr.rolls-Based t)) ∙ fold-roll-Expr (Unit {0}) Bool (Unit {0}) (Unit {0}) Bool (λ x. tt) is_target_layer (λ x. tt) (λ x. tt) step_target_layer (Expr-F.Based t)

pub target-Sized : (size : Token) (digits : Token) → is_target (expr.Sized size digits) ≡ false
unfolding is_target is_step_target
target-Sized size digits = ap is_target (sym (expr.rolls-Sized size digits)) ∙ fold-roll-Expr (Unit {0}) Bool (Unit {0}) (Unit {0}) Bool (λ x. tt) is_target_layer (λ x. tt) (λ x. tt) step_target_layer (Expr-F.Sized size digits)

pub target-Fill : (t : Token) → is_target (expr.Fill t) ≡ false
unfolding is_target is_step_target
target-Fill t = ap is_target (sym (expr.rolls-Fill t)) ∙ fold-roll-Expr (Unit {0}) Bool (Unit {0}) (Unit {0}) Bool (λ x. tt) is_target_layer (λ x. tt) (λ x. tt) step_target_layer (Expr-F.Fill t)

pub target-Name : (name : Token) (selects : List Select) → is_target (expr.Name name selects) ≡ true
unfolding is_target is_step_target
target-Name name selects = ap is_target (sym (expr.rolls-Name name selects)) ∙ fold-roll-Expr (Unit {0}) Bool (Unit {0}) (Unit {0}) Bool (λ x. tt) is_target_layer (λ x. tt) (λ x. tt) step_target_layer (Expr-F.Name name selects)

pub target-Paren : (opens : Token) (inner : Expr) (closes : Token) → is_target (expr.Paren opens inner closes) ≡ false
unfolding is_target is_step_target
target-Paren opens inner closes = ap is_target (sym (expr.rolls-Paren opens inner closes)) ∙ fold-roll-Expr (Unit {0}) Bool (Unit {0}) (Unit {0}) Bool (λ x. tt) is_target_layer (λ x. tt) (λ x. tt) step_target_layer (Expr-F.Paren opens inner closes)

pub target-Concat : (opens : Token) (first : Expr) (more : List Step) (closes : Token) → is_target (expr.Concat opens first more closes) ≡ (is_target first && step_targets more)
unfolding is_target is_step_target
target-Concat opens first more closes = ap is_target (sym (expr.rolls-Concat opens first more closes)) ∙ fold-roll-Expr (Unit {0}) Bool (Unit {0}) (Unit {0}) Bool (λ x. tt) is_target_layer (λ x. tt) (λ x. tt) step_target_layer (Expr-F.Concat opens first more closes)

pub target-Repeat : (opens : Token) (count : Expr) (inner_opens : Token) (first : Expr) (more : List Step) (inner_closes : Token) (closes : Token) → is_target (expr.Repeat opens count inner_opens first more inner_closes closes) ≡ false
unfolding is_target is_step_target
target-Repeat opens count inner_opens first more inner_closes closes = ap is_target (sym (expr.rolls-Repeat opens count inner_opens first more inner_closes closes)) ∙ fold-roll-Expr (Unit {0}) Bool (Unit {0}) (Unit {0}) Bool (λ x. tt) is_target_layer (λ x. tt) (λ x. tt) step_target_layer (Expr-F.Repeat opens count inner_opens first more inner_closes closes)

pub target-Call : (name : Token) (opens : Token) (args : Args) (closes : Token) → is_target (expr.Call name opens args closes) ≡ false
unfolding is_target is_step_target
target-Call name opens args closes = ap is_target (sym (expr.rolls-Call name opens args closes)) ∙ fold-roll-Expr (Unit {0}) Bool (Unit {0}) (Unit {0}) Bool (λ x. tt) is_target_layer (λ x. tt) (λ x. tt) step_target_layer (Expr-F.Call name opens args closes)

pub target-System : (name : Token) (opens : Token) (arg : Expr) (closes : Token) → is_target (expr.System name opens arg closes) ≡ false
unfolding is_target is_step_target
target-System name opens arg closes = ap is_target (sym (expr.rolls-System name opens arg closes)) ∙ fold-roll-Expr (Unit {0}) Bool (Unit {0}) (Unit {0}) Bool (λ x. tt) is_target_layer (λ x. tt) (λ x. tt) step_target_layer (Expr-F.System name opens arg closes)

pub target-Prefix : (marks : List Token) (operand : Expr) → is_target (expr.Prefix marks operand) ≡ false
unfolding is_target is_step_target
target-Prefix marks operand = ap is_target (sym (expr.rolls-Prefix marks operand)) ∙ fold-roll-Expr (Unit {0}) Bool (Unit {0}) (Unit {0}) Bool (λ x. tt) is_target_layer (λ x. tt) (λ x. tt) step_target_layer (Expr-F.Prefix marks operand)

pub target-Level : (first : Expr) (more : List Step) → is_target (expr.Level first more) ≡ false
unfolding is_target is_step_target
target-Level first more = ap is_target (sym (expr.rolls-Level first more)) ∙ fold-roll-Expr (Unit {0}) Bool (Unit {0}) (Unit {0}) Bool (λ x. tt) is_target_layer (λ x. tt) (λ x. tt) step_target_layer (Expr-F.Level first more)

pub target-Choose : (choices : List Choice) (last : Expr) → is_target (expr.Choose choices last) ≡ false
unfolding is_target is_step_target
target-Choose choices last = ap is_target (sym (expr.rolls-Choose choices last)) ∙ fold-roll-Expr (Unit {0}) Bool (Unit {0}) (Unit {0}) Bool (λ x. tt) is_target_layer (λ x. tt) (λ x. tt) step_target_layer (Expr-F.Choose choices last)

pub target_step-roll : (mark : Token) (operand : Expr) → is_step_target (roll-Step (record { mark = mark; operand = operand })) ≡ is_target operand
unfolding is_step_target is_target
target_step-roll mark operand = fold-roll-Step (Unit {0}) Bool (Unit {0}) (Unit {0}) Bool (λ x. tt) is_target_layer (λ x. tt) (λ x. tt) step_target_layer (record { mark = mark; operand = operand })
