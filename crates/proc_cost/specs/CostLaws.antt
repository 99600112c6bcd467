-- The equations of costs, one for each form, and of a cost that is added.
use Rattle.std.proofs.Common.{◌≡◌, ℕ, ◌+◌, ◌<◌, take, get_or, Bool, if◌then◌else◌, List, map, length, Option, Some, None, refl, sym, ap, ◌∙◌, arith}
use Rattle.std.specs.Option.{option_map}
use Rattle.std.specs.List.{sum, sum_by}
use Rattle.std.proofs.lemmas.List.Sums.{sum-map, sum_by_more}
use Rattle.vs_base.specs.Number.{Number}
use Rattle.rtl_ir.specs.declared.expr.Expr.{Expr}
use Rattle.rtl_ir.specs.declared.expr.ExprNode.{ExprNode}
use Rattle.rtl_ir.specs.declared.expr.Choice.{Choice}
use Rattle.rtl_ir.specs.declared.expr.Call.{Call, out-Call}
use Rattle.rtl_ir.specs.declared.expr.Target.{Target, out-Target}
use Rattle.rtl_ir.specs.declared.expr.Select.{Select, out-Select}
use Rattle.rtl_ir.specs.declared.operator.UnaryOp.{UnaryOp}
use Rattle.rtl_ir.specs.declared.operator.BinaryOp.{BinaryOp}
use Rattle.rtl_ir.specs.declared.expr.ExprNode.TheOpen.{ExprNode-F}
use Rattle.rtl_ir.specs.declared.expr.ExprNode.TheFolds.{map-Target, fold-roll-ExprNode, fold_out-Expr, fold_out-Choice, fold_out-Call, fold_out-Target, fold_out-Select}
use Rattle.rtl_ir.specs.declared.expr.ExprNode.TheVariants as node
use Rattle.rtl_ir.specs.declared.stmt.Place.{Place}
use Rattle.rtl_ir.specs.declared.stmt.Stmt.{Stmt}
use Rattle.rtl_ir.specs.declared.stmt.Arm.{Arm, out-Arm}
use Rattle.rtl_ir.specs.declared.stmt.Branch.{Branch, out-Branch}
use Rattle.rtl_ir.specs.declared.stmt.Stmt.TheOpen.{Stmt-F}
use Rattle.rtl_ir.specs.declared.stmt.Stmt.TheFolds.{fold-roll-Stmt, fold_out-Arm, fold_out-Branch}
use Rattle.rtl_ir.specs.declared.stmt.Stmt.TheVariants as stmt
use Rattle.proc_cost.specs.Costs.{op_cost, index_cost, label_cost, write_cost, call_layer, choice_layer, select_layer, target_layer, node_layer, expr_layer, node_cost, call_cost, choice_cost, expr_cost, select_cost, target_cost, stmt_layer, arm_layer, branch_layer, stmt_cost, arm_cost, branch_cost, onto}

pub expr_is : (e : Expr) → expr_cost e ≡ node_cost e.node
unfolding expr_cost node_cost
expr_is e = fold_out-Expr ℕ ℕ ℕ ℕ ℕ ℕ node_layer call_layer choice_layer expr_layer select_layer target_layer e

pub choice_is : (e : Choice) → choice_cost e ≡ 1 + (expr_cost e.test + expr_cost e.value)
unfolding expr_cost choice_cost
choice_is e = fold_out-Choice ℕ ℕ ℕ ℕ ℕ ℕ node_layer call_layer choice_layer expr_layer select_layer target_layer e

pub select_is : (s : Select) → select_cost s ≡ expr_cost (out-Select s).at
unfolding expr_cost select_cost
select_is s = fold_out-Select ℕ ℕ ℕ ℕ ℕ ℕ node_layer call_layer choice_layer expr_layer select_layer target_layer s

pub call_is : (c : Call) → call_cost c ≡ 20 + sum_by expr_cost (out-Call c).args
unfolding expr_cost call_cost
call_is c = fold_out-Call ℕ ℕ ℕ ℕ ℕ ℕ node_layer call_layer choice_layer expr_layer select_layer target_layer c ∙ ap (λ n. 20 + n) (sum-map expr_cost (out-Call c).args)

target_by : (mem : Bool) (item : ℕ) (element : Option Expr) (select : Option Select) (whole : Bool) → target_layer (map-Target ExprNode Call Choice Expr Select Target ℕ ℕ ℕ ℕ ℕ ℕ node_cost call_cost choice_cost expr_cost select_cost target_cost (record { mem = mem; item = item; element = element; select = select; whole = whole })) ≡ (if whole then index_cost (option_map expr_cost element) + index_cost (option_map select_cost select) else 0)
target_by mem item None None whole = refl
target_by mem item None (Some s) whole = refl
target_by mem item (Some e) None whole = refl
target_by mem item (Some e) (Some s) whole = refl

pub target_is : (t : Target) → target_cost t ≡ (if (out-Target t).whole then index_cost (option_map expr_cost (out-Target t).element) + index_cost (option_map select_cost (out-Target t).select) else 0)
unfolding node_cost call_cost choice_cost expr_cost select_cost target_cost
target_is t = fold_out-Target ℕ ℕ ℕ ℕ ℕ ℕ node_layer call_layer choice_layer expr_layer select_layer target_layer t ∙ target_by (out-Target t).mem (out-Target t).item (out-Target t).element (out-Target t).select (out-Target t).whole

pub node-Const : (value : Number) → node_cost (node.Const value) ≡ 0
unfolding node_cost
node-Const value = ap node_cost (sym (node.rolls-Const value)) ∙ fold-roll-ExprNode ℕ ℕ ℕ ℕ ℕ ℕ node_layer call_layer choice_layer expr_layer select_layer target_layer (ExprNode-F.Const value)

pub node-Read : (target : Target) → node_cost (node.Read target) ≡ target_cost target
unfolding node_cost target_cost
node-Read target = ap node_cost (sym (node.rolls-Read target)) ∙ fold-roll-ExprNode ℕ ℕ ℕ ℕ ℕ ℕ node_layer call_layer choice_layer expr_layer select_layer target_layer (ExprNode-F.Read target)

pub node-Prefix : (operators : List UnaryOp) (operand : Expr) → node_cost (node.Prefix operators operand) ≡ length operators + expr_cost operand
unfolding node_cost expr_cost
node-Prefix operators operand = ap node_cost (sym (node.rolls-Prefix operators operand)) ∙ fold-roll-ExprNode ℕ ℕ ℕ ℕ ℕ ℕ node_layer call_layer choice_layer expr_layer select_layer target_layer (ExprNode-F.Prefix operators operand)

pub node-Level : (operands : List Expr) (operators : List BinaryOp) → node_cost (node.Level operands operators) ≡ sum_by op_cost operators + sum_by expr_cost operands
unfolding node_cost expr_cost
node-Level operands operators = ap node_cost (sym (node.rolls-Level operands operators)) ∙ fold-roll-ExprNode ℕ ℕ ℕ ℕ ℕ ℕ node_layer call_layer choice_layer expr_layer select_layer target_layer (ExprNode-F.Level operands operators) ∙ ap (λ n. sum_by op_cost operators + n) (sum-map expr_cost operands)

pub node-Choose : (choices : List Choice) (last : Expr) → node_cost (node.Choose choices last) ≡ sum_by choice_cost choices + expr_cost last
unfolding node_cost expr_cost choice_cost
node-Choose choices last = ap node_cost (sym (node.rolls-Choose choices last)) ∙ fold-roll-ExprNode ℕ ℕ ℕ ℕ ℕ ℕ node_layer call_layer choice_layer expr_layer select_layer target_layer (ExprNode-F.Choose choices last) ∙ ap (λ n. n + expr_cost last) (sum-map choice_cost choices)

pub node-Concat : (parts : List Expr) → node_cost (node.Concat parts) ≡ sum_by expr_cost parts
unfolding node_cost expr_cost
node-Concat parts = ap node_cost (sym (node.rolls-Concat parts)) ∙ fold-roll-ExprNode ℕ ℕ ℕ ℕ ℕ ℕ node_layer call_layer choice_layer expr_layer select_layer target_layer (ExprNode-F.Concat parts) ∙ sum-map expr_cost parts

pub node-Repeat : (count : ℕ) (parts : List Expr) → node_cost (node.Repeat count parts) ≡ sum_by expr_cost parts
unfolding node_cost expr_cost
node-Repeat count parts = ap node_cost (sym (node.rolls-Repeat count parts)) ∙ fold-roll-ExprNode ℕ ℕ ℕ ℕ ℕ ℕ node_layer call_layer choice_layer expr_layer select_layer target_layer (ExprNode-F.Repeat count parts) ∙ sum-map expr_cost parts

pub node-Call : (call : Call) → node_cost (node.Call call) ≡ call_cost call
unfolding node_cost call_cost
node-Call call = ap node_cost (sym (node.rolls-Call call)) ∙ fold-roll-ExprNode ℕ ℕ ℕ ℕ ℕ ℕ node_layer call_layer choice_layer expr_layer select_layer target_layer (ExprNode-F.Call call)

pub node-Sign : (operand : Expr) → node_cost (node.Sign operand) ≡ expr_cost operand
unfolding node_cost expr_cost
node-Sign operand = ap node_cost (sym (node.rolls-Sign operand)) ∙ fold-roll-ExprNode ℕ ℕ ℕ ℕ ℕ ℕ node_layer call_layer choice_layer expr_layer select_layer target_layer (ExprNode-F.Sign operand)

pub stmt-Write : (place : Place) (value : Expr) → stmt_cost (stmt.Write place value) ≡ write_cost place value
unfolding stmt_cost
stmt-Write place value = ap stmt_cost (sym (stmt.rolls-Write place value)) ∙ fold-roll-Stmt ℕ ℕ ℕ stmt_layer arm_layer branch_layer (Stmt-F.Write place value)

pub stmt-Later : (place : Place) (value : Expr) → stmt_cost (stmt.Later place value) ≡ write_cost place value
unfolding stmt_cost
stmt-Later place value = ap stmt_cost (sym (stmt.rolls-Later place value)) ∙ fold-roll-Stmt ℕ ℕ ℕ stmt_layer arm_layer branch_layer (Stmt-F.Later place value)

pub stmt-If : (branches : List Branch) (rest : List Stmt) → stmt_cost (stmt.If branches rest) ≡ sum_by branch_cost branches + sum_by stmt_cost rest
unfolding stmt_cost branch_cost
stmt-If branches rest = ap stmt_cost (sym (stmt.rolls-If branches rest)) ∙ fold-roll-Stmt ℕ ℕ ℕ stmt_layer arm_layer branch_layer (Stmt-F.If branches rest)
    ∙ ap (λ n. n + sum (map stmt_cost rest)) (sum-map branch_cost branches) ∙ ap (λ n. sum_by branch_cost branches + n) (sum-map stmt_cost rest)

pub stmt-Case : (subject : Expr) (arms : List Arm) (rest : List Stmt) → stmt_cost (stmt.Case subject arms rest) ≡ expr_cost subject + (sum_by arm_cost arms + sum_by stmt_cost rest)
unfolding stmt_cost arm_cost
stmt-Case subject arms rest = ap stmt_cost (sym (stmt.rolls-Case subject arms rest)) ∙ fold-roll-Stmt ℕ ℕ ℕ stmt_layer arm_layer branch_layer (Stmt-F.Case subject arms rest)
    ∙ ap (λ n. expr_cost subject + (n + sum (map stmt_cost rest))) (sum-map arm_cost arms) ∙ ap (λ n. expr_cost subject + (sum_by arm_cost arms + n)) (sum-map stmt_cost rest)

pub stmt-Do : (call : Call) → stmt_cost (stmt.Do call) ≡ call_cost call
unfolding stmt_cost
stmt-Do call = ap stmt_cost (sym (stmt.rolls-Do call)) ∙ fold-roll-Stmt ℕ ℕ ℕ stmt_layer arm_layer branch_layer (Stmt-F.Do call)

pub arm_is : (arm : Arm) → arm_cost arm ≡ sum_by label_cost (out-Arm arm).labels + sum_by stmt_cost (out-Arm arm).body
unfolding stmt_cost arm_cost
arm_is arm = fold_out-Arm ℕ ℕ ℕ stmt_layer arm_layer branch_layer arm ∙ ap (λ n. sum_by label_cost (out-Arm arm).labels + n) (sum-map stmt_cost (out-Arm arm).body)

pub branch_is : (branch : Branch) → branch_cost branch ≡ 1 + (expr_cost (out-Branch branch).test + sum_by stmt_cost (out-Branch branch).body)
unfolding stmt_cost branch_cost
branch_is branch = fold_out-Branch ℕ ℕ ℕ stmt_layer arm_layer branch_layer branch ∙ ap (λ n. 1 + (expr_cost (out-Branch branch).test + n)) (sum-map stmt_cost (out-Branch branch).body)

-- ---- what is added

pub onto_onto : (so_far a b : ℕ) → onto (onto so_far a) b ≡ onto so_far (a + b)
unfolding onto
onto_onto so_far a b = omega arith

-- a cost with one more of a list
pub onto_next : {X : Type 0} (f : X → ℕ) (so_far : ℕ) (xs : List X) (i : ℕ) (d : X) → i < length xs → onto (onto so_far (sum_by f (take i xs))) (f (get_or xs i d)) ≡ onto so_far (sum_by f (take (i + 1) xs))
onto_next f so_far xs i d h = onto_onto so_far (sum_by f (take i xs)) (f (get_or xs i d)) ∙ ap (onto so_far) (sym (sum_by_more f xs i d h))

pub ruleset laws = (onto_next, expr_is, choice_is, select_is, call_is, target_is, node-Const, node-Read, node-Prefix, node-Level, node-Choose, node-Concat, node-Repeat, node-Call, node-Sign, stmt-Write, stmt-Later, stmt-If, stmt-Case, stmt-Do, arm_is, branch_is, onto_onto)
