-- The equations of what fits a design, one for each form.
use Rattle.std.proofs.Common.{◌≡◌, ℕ, Bool, ◌&&◌, List, [], ◌∷◌, map, length, suc, ◌==◌, nat_lt, nat_le, Option, Some, None, refl, sym, ap, ◌∙◌}
use Rattle.std.specs.List.{list_all}
use Rattle.std.specs.Option.{option_map}
use Rattle.std.proofs.lemmas.List.{length-map}
use Rattle.vs_base.specs.declared.limits.TheConstants.{CALL_ARGUMENTS}
use Rattle.vs_base.specs.Number.{Number}
use Rattle.rtl_ir.specs.declared.counts.Counts.{Counts}
use Rattle.rtl_ir.specs.declared.expr.Expr.{Expr}
use Rattle.rtl_ir.specs.declared.expr.ExprNode.{ExprNode}
use Rattle.rtl_ir.specs.declared.expr.Choice.{Choice}
use Rattle.rtl_ir.specs.declared.expr.Call.{Call}
use Rattle.rtl_ir.specs.declared.expr.Target.{Target}
use Rattle.rtl_ir.specs.declared.expr.Select.{Select, out-Select}
use Rattle.rtl_ir.specs.declared.expr.Call.{out-Call}
use Rattle.rtl_ir.specs.declared.expr.Target.{out-Target}
use Rattle.rtl_ir.specs.declared.operator.UnaryOp.{UnaryOp}
use Rattle.rtl_ir.specs.declared.operator.BinaryOp.{BinaryOp}
use Rattle.rtl_ir.specs.declared.expr.ExprNode.TheOpen.{ExprNode-F}
use Rattle.rtl_ir.specs.declared.expr.ExprNode.TheFolds.{map-Target, fold-roll-ExprNode, fold_out-Expr, fold_out-Choice, fold_out-Call, fold_out-Target, fold_out-Select}
use Rattle.rtl_ir.specs.declared.expr.ExprNode.TheVariants as node
use Rattle.rtl_ir.specs.Within.{all_true, none_or, item_fits, call_layer, choice_layer, select_layer, target_layer, node_layer, expr_layer, node_fits, call_fits, choice_fits, expr_fits, select_fits, target_fits}

pub all_true_map : {X : Type 0} (f : X → Bool) (xs : List X) → all_true (map f xs) ≡ list_all f xs
all_true_map f [] = refl
all_true_map f (x ∷ xs) = ap (λ b. f x && b) (all_true_map f xs)

module _ (counts : Counts) where
  pub expr_is : (e : Expr) → expr_fits counts e ≡ node_fits counts e.node e.width
  unfolding expr_fits node_fits
  expr_is e = fold_out-Expr (ℕ → Bool) Bool Bool Bool Bool Bool (node_layer counts) (call_layer counts) (choice_layer counts) (expr_layer counts) (select_layer counts) (target_layer counts) e

  pub choice_is : (e : Choice) → choice_fits counts e ≡ (expr_fits counts e.test && expr_fits counts e.value)
  unfolding expr_fits choice_fits
  choice_is e = fold_out-Choice (ℕ → Bool) Bool Bool Bool Bool Bool (node_layer counts) (call_layer counts) (choice_layer counts) (expr_layer counts) (select_layer counts) (target_layer counts) e

  pub node-Const : (value : Number) (width : ℕ) → node_fits counts (node.Const value) width ≡ (value.width == width)
  unfolding node_fits
  node-Const value width = ap (λ (f : ℕ → Bool). f width) (ap (node_fits counts) (sym (node.rolls-Const value)) ∙ fold-roll-ExprNode (ℕ → Bool) Bool Bool Bool Bool Bool (node_layer counts) (call_layer counts) (choice_layer counts) (expr_layer counts) (select_layer counts) (target_layer counts) (ExprNode-F.Const value))

  pub node-Read : (target : Target) (width : ℕ) → node_fits counts (node.Read target) width ≡ target_fits counts target
  unfolding node_fits target_fits
  node-Read target width = ap (λ (f : ℕ → Bool). f width) (ap (node_fits counts) (sym (node.rolls-Read target)) ∙ fold-roll-ExprNode (ℕ → Bool) Bool Bool Bool Bool Bool (node_layer counts) (call_layer counts) (choice_layer counts) (expr_layer counts) (select_layer counts) (target_layer counts) (ExprNode-F.Read target))

  pub node-Prefix : (operators : List UnaryOp) (operand : Expr) (width : ℕ) → node_fits counts (node.Prefix operators operand) width ≡ expr_fits counts operand
  unfolding node_fits expr_fits
  node-Prefix operators operand width = ap (λ (f : ℕ → Bool). f width) (ap (node_fits counts) (sym (node.rolls-Prefix operators operand)) ∙ fold-roll-ExprNode (ℕ → Bool) Bool Bool Bool Bool Bool (node_layer counts) (call_layer counts) (choice_layer counts) (expr_layer counts) (select_layer counts) (target_layer counts) (ExprNode-F.Prefix operators operand))

  pub node-Level : (operands : List Expr) (operators : List BinaryOp) (width : ℕ) → node_fits counts (node.Level operands operators) width ≡ ((length operands == suc (length operators)) && list_all (expr_fits counts) operands)
  unfolding node_fits expr_fits
  node-Level operands operators width = ap (λ (f : ℕ → Bool). f width) (ap (node_fits counts) (sym (node.rolls-Level operands operators)) ∙ fold-roll-ExprNode (ℕ → Bool) Bool Bool Bool Bool Bool (node_layer counts) (call_layer counts) (choice_layer counts) (expr_layer counts) (select_layer counts) (target_layer counts) (ExprNode-F.Level operands operators)) ∙ ap (λ n. (n == suc (length operators)) && all_true (map (expr_fits counts) operands)) (length-map operands (expr_fits counts)) ∙ ap (λ b. (length operands == suc (length operators)) && b) (all_true_map (expr_fits counts) operands)

  pub node-Choose : (choices : List Choice) (last : Expr) (width : ℕ) → node_fits counts (node.Choose choices last) width ≡ (list_all (choice_fits counts) choices && expr_fits counts last)
  unfolding node_fits expr_fits choice_fits
  node-Choose choices last width = ap (λ (f : ℕ → Bool). f width) (ap (node_fits counts) (sym (node.rolls-Choose choices last)) ∙ fold-roll-ExprNode (ℕ → Bool) Bool Bool Bool Bool Bool (node_layer counts) (call_layer counts) (choice_layer counts) (expr_layer counts) (select_layer counts) (target_layer counts) (ExprNode-F.Choose choices last)) ∙ ap (λ b. b && expr_fits counts last) (all_true_map (choice_fits counts) choices)

  pub node-Concat : (parts : List Expr) (width : ℕ) → node_fits counts (node.Concat parts) width ≡ list_all (expr_fits counts) parts
  unfolding node_fits expr_fits
  node-Concat parts width = ap (λ (f : ℕ → Bool). f width) (ap (node_fits counts) (sym (node.rolls-Concat parts)) ∙ fold-roll-ExprNode (ℕ → Bool) Bool Bool Bool Bool Bool (node_layer counts) (call_layer counts) (choice_layer counts) (expr_layer counts) (select_layer counts) (target_layer counts) (ExprNode-F.Concat parts)) ∙ all_true_map (expr_fits counts) parts

  pub node-Repeat : (count : ℕ) (parts : List Expr) (width : ℕ) → node_fits counts (node.Repeat count parts) width ≡ list_all (expr_fits counts) parts
  unfolding node_fits expr_fits
  node-Repeat count parts width = ap (λ (f : ℕ → Bool). f width) (ap (node_fits counts) (sym (node.rolls-Repeat count parts)) ∙ fold-roll-ExprNode (ℕ → Bool) Bool Bool Bool Bool Bool (node_layer counts) (call_layer counts) (choice_layer counts) (expr_layer counts) (select_layer counts) (target_layer counts) (ExprNode-F.Repeat count parts)) ∙ all_true_map (expr_fits counts) parts

  pub node-Call : (call : Call) (width : ℕ) → node_fits counts (node.Call call) width ≡ call_fits counts call
  unfolding node_fits call_fits
  node-Call call width = ap (λ (f : ℕ → Bool). f width) (ap (node_fits counts) (sym (node.rolls-Call call)) ∙ fold-roll-ExprNode (ℕ → Bool) Bool Bool Bool Bool Bool (node_layer counts) (call_layer counts) (choice_layer counts) (expr_layer counts) (select_layer counts) (target_layer counts) (ExprNode-F.Call call))

  pub node-Sign : (operand : Expr) (width : ℕ) → node_fits counts (node.Sign operand) width ≡ expr_fits counts operand
  unfolding node_fits expr_fits
  node-Sign operand width = ap (λ (f : ℕ → Bool). f width) (ap (node_fits counts) (sym (node.rolls-Sign operand)) ∙ fold-roll-ExprNode (ℕ → Bool) Bool Bool Bool Bool Bool (node_layer counts) (call_layer counts) (choice_layer counts) (expr_layer counts) (select_layer counts) (target_layer counts) (ExprNode-F.Sign operand))

  pub select_is : (s : Select) → select_fits counts s ≡ expr_fits counts (out-Select s).at
  unfolding expr_fits select_fits
  select_is s = fold_out-Select (ℕ → Bool) Bool Bool Bool Bool Bool (node_layer counts) (call_layer counts) (choice_layer counts) (expr_layer counts) (select_layer counts) (target_layer counts) s

  pub call_is : (c : Call) → call_fits counts c ≡ (nat_lt (out-Call c).import counts.imports && (nat_le (length (out-Call c).args) CALL_ARGUMENTS && list_all (expr_fits counts) (out-Call c).args))
  unfolding expr_fits call_fits
  call_is c = fold_out-Call (ℕ → Bool) Bool Bool Bool Bool Bool (node_layer counts) (call_layer counts) (choice_layer counts) (expr_layer counts) (select_layer counts) (target_layer counts) c
      ∙ ap (λ n. nat_lt (out-Call c).import counts.imports && (nat_le n CALL_ARGUMENTS && all_true (map (expr_fits counts) (out-Call c).args))) (length-map (out-Call c).args (expr_fits counts))
      ∙ ap (λ b. nat_lt (out-Call c).import counts.imports && (nat_le (length (out-Call c).args) CALL_ARGUMENTS && b)) (all_true_map (expr_fits counts) (out-Call c).args)

  target_by : (mem : Bool) (item : ℕ) (element : Option Expr) (select : Option Select) (whole : Bool) → target_layer counts (map-Target ExprNode Call Choice Expr Select Target (ℕ → Bool) Bool Bool Bool Bool Bool (node_fits counts) (call_fits counts) (choice_fits counts) (expr_fits counts) (select_fits counts) (target_fits counts) (record { mem = mem; item = item; element = element; select = select; whole = whole })) ≡ (item_fits counts mem item (option_map (expr_fits counts) element) && none_or (option_map (select_fits counts) select))
  target_by mem item None None whole = refl
  target_by mem item None (Some s) whole = refl
  target_by mem item (Some e) None whole = refl
  target_by mem item (Some e) (Some s) whole = refl

  pub target_is : (t : Target) → target_fits counts t ≡ (item_fits counts (out-Target t).mem (out-Target t).item (option_map (expr_fits counts) (out-Target t).element) && none_or (option_map (select_fits counts) (out-Target t).select))
  unfolding node_fits call_fits choice_fits expr_fits select_fits target_fits
  target_is t = fold_out-Target (ℕ → Bool) Bool Bool Bool Bool Bool (node_layer counts) (call_layer counts) (choice_layer counts) (expr_layer counts) (select_layer counts) (target_layer counts) t ∙ target_by (out-Target t).mem (out-Target t).item (out-Target t).element (out-Target t).select (out-Target t).whole

pub ruleset laws = (expr_is, choice_is, select_is, call_is, target_is, node-Const, node-Read, node-Prefix, node-Level, node-Choose, node-Concat, node-Repeat, node-Call, node-Sign)
