-- The equations of what a target is, one for each form.
use Rattle.std.proofs.Common.{◌≡◌, List, map, sym, ap, ◌∙◌}
use Rattle.sv_tree.specs.declared.token.Token.{Token}
use Rattle.sv_tree.specs.declared.tree.expr.Select.{Select}
use Rattle.sv_tree.specs.declared.tree.stmt.Lvalue.{Lvalue}
use Rattle.sv_tree.specs.declared.tree.stmt.Lvalue.TheFolds.{fold-roll-Lvalue, fold-roll-LvalueStep}
use Rattle.sv_tree.specs.declared.tree.stmt.Lvalue.TheOpen.{Lvalue-F}
use Rattle.sv_tree.specs.declared.tree.stmt.Lvalue.TheVariants as lvalue
use Rattle.sv_tree.specs.declared.tree.stmt.LvalueStep.{LvalueStep, roll-LvalueStep}
use Rattle.sv_expr.specs.declared.typed.Typed.{Typed}
use Rattle.sv_expr.specs.Environment.{Environment}
use Rattle.sv_expr.specs.Target.{target_layer, step_layer, target_typed, step_typed}

module _ (env : Environment) where
  pub target-Name : (name : Token) (selects : List Select) → target_typed env (lvalue.Name name selects) ≡ target_layer env (Lvalue-F.Name name selects)
  unfolding target_typed
  target-Name name selects = ap (target_typed env) (sym (lvalue.rolls-Name name selects)) ∙ fold-roll-Lvalue Typed Typed (target_layer env) (step_layer env) (Lvalue-F.Name name selects)

  pub target-Concat : (opens : Token) (first : Lvalue) (more : List LvalueStep) (closes : Token) → target_typed env (lvalue.Concat opens first more closes) ≡ target_layer env (Lvalue-F.Concat opens (target_typed env first) (map (step_typed env) more) closes)
  unfolding target_typed step_typed
  target-Concat opens first more closes = ap (target_typed env) (sym (lvalue.rolls-Concat opens first more closes)) ∙ fold-roll-Lvalue Typed Typed (target_layer env) (step_layer env) (Lvalue-F.Concat opens first more closes)

  pub target_step-roll : (comma : Token) (target : Lvalue) → step_typed env (roll-LvalueStep (record { comma = comma; target = target })) ≡ target_typed env target
  unfolding step_typed target_typed
  target_step-roll comma target = fold-roll-LvalueStep Typed Typed (target_layer env) (step_layer env) (record { comma = comma; target = target })
