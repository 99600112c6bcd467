-- The equations of calls, one for each form.
use Rattle.std.proofs.Common.{◌≡◌, ℕ, ◌++◌, ◌∷◌, Bool, List, [], map, Option, Some, None, refl, sym, ap, ◌∙◌}
use Rattle.std.specs.Option.{option_map}
use Rattle.std.specs.List.{flat_map}
use Rattle.std.proofs.lemmas.List.Folds.{flat_map-map}
use Rattle.std.proofs.lemmas.List.{append_assoc}
use Rattle.vs_base.specs.Number.{Number}
use Rattle.rtl_ir.specs.declared.expr.Expr.{Expr}
use Rattle.rtl_ir.specs.declared.expr.ExprNode.{ExprNode}
use Rattle.rtl_ir.specs.declared.expr.Choice.{Choice}
use Rattle.rtl_ir.specs.declared.expr.Call.{Call, out-Call}
use Rattle.rtl_ir.specs.declared.expr.Target.{Target, out-Target}
use Rattle.rtl_ir.specs.declared.expr.Select.{Select, out-Select}
use Rattle.rtl_ir.specs.declared.operator.UnaryOp.{UnaryOp}
use Rattle.rtl_ir.specs.declared.operator.BinaryOp.{BinaryOp}
use Rattle.rtl_ir.specs.declared.expr.ExprNode.TheOpen.{ExprNode-F}
use Rattle.rtl_ir.specs.declared.expr.ExprNode.TheFolds.{map-Target, fold-roll-ExprNode, fold_out-Expr, fold_out-Choice, fold_out-Call, fold_out-Target, fold_out-Select}
use Rattle.rtl_ir.specs.declared.expr.ExprNode.TheVariants as node
use Rattle.rtl_ir.specs.declared.stmt.Place.{Place}
use Rattle.rtl_ir.specs.declared.stmt.Stmt.{Stmt}
use Rattle.rtl_ir.specs.declared.stmt.Arm.{Arm, out-Arm}
use Rattle.rtl_ir.specs.declared.stmt.Branch.{Branch, out-Branch}
use Rattle.rtl_ir.specs.declared.stmt.Stmt.TheOpen.{Stmt-F}
use Rattle.rtl_ir.specs.declared.stmt.Stmt.TheFolds.{fold-roll-Stmt, fold_out-Arm, fold_out-Branch}
use Rattle.rtl_ir.specs.declared.stmt.Stmt.TheVariants as stmt
use Rattle.proc_calls.specs.Calls.{Imports, in_turn, or_none, write_calls, call_layer, choice_layer, select_layer, target_layer, node_layer, expr_layer, node_calls, call_calls, choice_calls, expr_calls, select_calls, target_calls, stmt_layer, arm_layer, branch_layer, stmt_calls, arm_calls, branch_calls}

-- lists in turn, each made from an element
pub in_turn_map : {X : Type 0} (f : X → Imports) (xs : List X) → in_turn (map f xs) ≡ flat_map f xs
in_turn_map f xs = flat_map-map (λ calls. calls) f xs

pub expr_is : (e : Expr) → expr_calls e ≡ node_calls e.node
unfolding expr_calls node_calls
expr_is e = fold_out-Expr Imports Imports Imports Imports Imports Imports node_layer call_layer choice_layer expr_layer select_layer target_layer e

pub choice_is : (e : Choice) → choice_calls e ≡ expr_calls e.test ++ expr_calls e.value
unfolding expr_calls choice_calls
choice_is e = fold_out-Choice Imports Imports Imports Imports Imports Imports node_layer call_layer choice_layer expr_layer select_layer target_layer e

pub select_is : (s : Select) → select_calls s ≡ expr_calls (out-Select s).at
unfolding expr_calls select_calls
select_is s = fold_out-Select Imports Imports Imports Imports Imports Imports node_layer call_layer choice_layer expr_layer select_layer target_layer s

pub call_is : (c : Call) → call_calls c ≡ flat_map expr_calls (out-Call c).args ++ (out-Call c).import ∷ []
unfolding expr_calls call_calls
call_is c = fold_out-Call Imports Imports Imports Imports Imports Imports node_layer call_layer choice_layer expr_layer select_layer target_layer c ∙ ap (λ calls. calls ++ (out-Call c).import ∷ []) (in_turn_map expr_calls (out-Call c).args)

target_by : (mem : Bool) (item : ℕ) (element : Option Expr) (select : Option Select) (whole : Bool) → target_layer (map-Target ExprNode Call Choice Expr Select Target Imports Imports Imports Imports Imports Imports node_calls call_calls choice_calls expr_calls select_calls target_calls (record { mem = mem; item = item; element = element; select = select; whole = whole })) ≡ or_none (option_map expr_calls element) ++ or_none (option_map select_calls select)
target_by mem item None None whole = refl
target_by mem item None (Some s) whole = refl
target_by mem item (Some e) None whole = refl
target_by mem item (Some e) (Some s) whole = refl

pub target_is : (t : Target) → target_calls t ≡ or_none (option_map expr_calls (out-Target t).element) ++ or_none (option_map select_calls (out-Target t).select)
unfolding node_calls call_calls choice_calls expr_calls select_calls target_calls
target_is t = fold_out-Target Imports Imports Imports Imports Imports Imports node_layer call_layer choice_layer expr_layer select_layer target_layer t ∙ target_by (out-Target t).mem (out-Target t).item (out-Target t).element (out-Target t).select (out-Target t).whole

pub node-Const : (value : Number) → node_calls (node.Const value) ≡ []
unfolding node_calls
node-Const value = ap node_calls (sym (node.rolls-Const value)) ∙ fold-roll-ExprNode Imports Imports Imports Imports Imports Imports node_layer call_layer choice_layer expr_layer select_layer target_layer (ExprNode-F.Const value)

pub node-Read : (target : Target) → node_calls (node.Read target) ≡ target_calls target
unfolding node_calls target_calls
node-Read target = ap node_calls (sym (node.rolls-Read target)) ∙ fold-roll-ExprNode Imports Imports Imports Imports Imports Imports node_layer call_layer choice_layer expr_layer select_layer target_layer (ExprNode-F.Read target)

pub node-Prefix : (operators : List UnaryOp) (operand : Expr) → node_calls (node.Prefix operators operand) ≡ expr_calls operand
unfolding node_calls expr_calls
node-Prefix operators operand = ap node_calls (sym (node.rolls-Prefix operators operand)) ∙ fold-roll-ExprNode Imports Imports Imports Imports Imports Imports node_layer call_layer choice_layer expr_layer select_layer target_layer (ExprNode-F.Prefix operators operand)

pub node-Level : (operands : List Expr) (operators : List BinaryOp) → node_calls (node.Level operands operators) ≡ flat_map expr_calls operands
unfolding node_calls expr_calls
node-Level operands operators = ap node_calls (sym (node.rolls-Level operands operators)) ∙ fold-roll-ExprNode Imports Imports Imports Imports Imports Imports node_layer call_layer choice_layer expr_layer select_layer target_layer (ExprNode-F.Level operands operators) ∙ in_turn_map expr_calls operands

pub node-Choose : (choices : List Choice) (last : Expr) → node_calls (node.Choose choices last) ≡ flat_map choice_calls choices ++ expr_calls last
unfolding node_calls expr_calls choice_calls
node-Choose choices last = ap node_calls (sym (node.rolls-Choose choices last)) ∙ fold-roll-ExprNode Imports Imports Imports Imports Imports Imports node_layer call_layer choice_layer expr_layer select_layer target_layer (ExprNode-F.Choose choices last) ∙ ap (λ calls. calls ++ expr_calls last) (in_turn_map choice_calls choices)

pub node-Concat : (parts : List Expr) → node_calls (node.Concat parts) ≡ flat_map expr_calls parts
unfolding node_calls expr_calls
node-Concat parts = ap node_calls (sym (node.rolls-Concat parts)) ∙ fold-roll-ExprNode Imports Imports Imports Imports Imports Imports node_layer call_layer choice_layer expr_layer select_layer target_layer (ExprNode-F.Concat parts) ∙ in_turn_map expr_calls parts

pub node-Repeat : (count : ℕ) (parts : List Expr) → node_calls (node.Repeat count parts) ≡ flat_map expr_calls parts
unfolding node_calls expr_calls
node-Repeat count parts = ap node_calls (sym (node.rolls-Repeat count parts)) ∙ fold-roll-ExprNode Imports Imports Imports Imports Imports Imports node_layer call_layer choice_layer expr_layer select_layer target_layer (ExprNode-F.Repeat count parts) ∙ in_turn_map expr_calls parts

pub node-Call : (call : Call) → node_calls (node.Call call) ≡ call_calls call
unfolding node_calls call_calls
node-Call call = ap node_calls (sym (node.rolls-Call call)) ∙ fold-roll-ExprNode Imports Imports Imports Imports Imports Imports node_layer call_layer choice_layer expr_layer select_layer target_layer (ExprNode-F.Call call)

pub node-Sign : (operand : Expr) → node_calls (node.Sign operand) ≡ expr_calls operand
unfolding node_calls expr_calls
node-Sign operand = ap node_calls (sym (node.rolls-Sign operand)) ∙ fold-roll-ExprNode Imports Imports Imports Imports Imports Imports node_layer call_layer choice_layer expr_layer select_layer target_layer (ExprNode-F.Sign operand)

pub stmt-Write : (place : Place) (value : Expr) → stmt_calls (stmt.Write place value) ≡ write_calls place value
unfolding stmt_calls
stmt-Write place value = ap stmt_calls (sym (stmt.rolls-Write place value)) ∙ fold-roll-Stmt Imports Imports Imports stmt_layer arm_layer branch_layer (Stmt-F.Write place value)

pub stmt-Later : (place : Place) (value : Expr) → stmt_calls (stmt.Later place value) ≡ write_calls place value
unfolding stmt_calls
stmt-Later place value = ap stmt_calls (sym (stmt.rolls-Later place value)) ∙ fold-roll-Stmt Imports Imports Imports stmt_layer arm_layer branch_layer (Stmt-F.Later place value)

pub stmt-If : (branches : List Branch) (rest : List Stmt) → stmt_calls (stmt.If branches rest) ≡ flat_map branch_calls branches ++ flat_map stmt_calls rest
unfolding stmt_calls branch_calls
stmt-If branches rest = ap stmt_calls (sym (stmt.rolls-If branches rest)) ∙ fold-roll-Stmt Imports Imports Imports stmt_layer arm_layer branch_layer (Stmt-F.If branches rest)
    ∙ ap (λ calls. calls ++ in_turn (map stmt_calls rest)) (in_turn_map branch_calls branches) ∙ ap (λ calls. flat_map branch_calls branches ++ calls) (in_turn_map stmt_calls rest)

pub stmt-Case : (subject : Expr) (arms : List Arm) (rest : List Stmt) → stmt_calls (stmt.Case subject arms rest) ≡ expr_calls subject ++ (flat_map arm_calls arms ++ flat_map stmt_calls rest)
unfolding stmt_calls arm_calls
stmt-Case subject arms rest = ap stmt_calls (sym (stmt.rolls-Case subject arms rest)) ∙ fold-roll-Stmt Imports Imports Imports stmt_layer arm_layer branch_layer (Stmt-F.Case subject arms rest)
    ∙ ap (λ calls. expr_calls subject ++ (calls ++ in_turn (map stmt_calls rest))) (in_turn_map arm_calls arms) ∙ ap (λ calls. expr_calls subject ++ (flat_map arm_calls arms ++ calls)) (in_turn_map stmt_calls rest)

pub stmt-Do : (call : Call) → stmt_calls (stmt.Do call) ≡ call_calls call
unfolding stmt_calls
stmt-Do call = ap stmt_calls (sym (stmt.rolls-Do call)) ∙ fold-roll-Stmt Imports Imports Imports stmt_layer arm_layer branch_layer (Stmt-F.Do call)

pub arm_is : (arm : Arm) → arm_calls arm ≡ flat_map expr_calls (out-Arm arm).labels ++ flat_map stmt_calls (out-Arm arm).body
unfolding stmt_calls arm_calls
arm_is arm = fold_out-Arm Imports Imports Imports stmt_layer arm_layer branch_layer arm ∙ ap (λ calls. flat_map expr_calls (out-Arm arm).labels ++ calls) (in_turn_map stmt_calls (out-Arm arm).body)

pub branch_is : (branch : Branch) → branch_calls branch ≡ expr_calls (out-Branch branch).test ++ flat_map stmt_calls (out-Branch branch).body
unfolding stmt_calls branch_calls
branch_is branch = fold_out-Branch Imports Imports Imports stmt_layer arm_layer branch_layer branch ∙ ap (λ calls. expr_calls (out-Branch branch).test ++ calls) (in_turn_map stmt_calls (out-Branch branch).body)

-- lists one after another
pub in_order : (xs ys zs : Imports) → (xs ++ ys) ++ zs ≡ xs ++ (ys ++ zs)
in_order xs ys zs = append_assoc xs ys zs

pub ruleset laws = (in_order, expr_is, choice_is, select_is, call_is, target_is, node-Const, node-Read, node-Prefix, node-Level, node-Choose, node-Concat, node-Repeat, node-Call, node-Sign, stmt-Write, stmt-Later, stmt-If, stmt-Case, stmt-Do, arm_is, branch_is)
