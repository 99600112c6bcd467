-- The imports that a process calls, one entry a call that stands in it: arguments before their call, branches one after another.
use Rattle.std.specs.Prelude.{ℕ, List, [], ◌∷◌, ◌++◌, Bool, ◌==◌, Option, Some, None}
use Rattle.std.specs.List.{flat_map, list_any}
use Rattle.rtl_ir.specs.declared.expr.Expr.{Expr}
use Rattle.rtl_ir.specs.declared.expr.ExprNode.{ExprNode}
use Rattle.rtl_ir.specs.declared.expr.Choice.{Choice}
use Rattle.rtl_ir.specs.declared.expr.Call.{Call}
use Rattle.rtl_ir.specs.declared.expr.Target.{Target}
use Rattle.rtl_ir.specs.declared.expr.Select.{Select}
use Rattle.rtl_ir.specs.declared.expr.ExprNode.TheOpen.{Expr-F, ExprNode-F, Choice-F, Call-F, Target-F, Select-F}
use Rattle.rtl_ir.specs.declared.expr.ExprNode.TheFolds as exprs
use Rattle.rtl_ir.specs.declared.stmt.Place.{Place}
use Rattle.rtl_ir.specs.declared.stmt.Stmt.{Stmt}
use Rattle.rtl_ir.specs.declared.stmt.Arm.{Arm}
use Rattle.rtl_ir.specs.declared.stmt.Branch.{Branch}
use Rattle.rtl_ir.specs.declared.stmt.Stmt.TheOpen.{Stmt-F, Arm-F, Branch-F}
use Rattle.rtl_ir.specs.declared.stmt.Stmt.TheFolds as stmts
use Rattle.rtl_ir.specs.declared.design.Proc.{Proc}

-- numbers of imports
abbrev pub Imports : Type 0
Imports = List ℕ

-- one list after another
abbrev pub in_turn : List Imports → Imports
in_turn lists = flat_map (λ calls. calls) lists

abbrev pub or_none : Option Imports → Imports
or_none (Some calls) = calls
or_none None = []

abbrev pub call_layer : Call-F Imports Imports Imports Imports Imports Imports → Imports
call_layer c = in_turn c.args ++ c.import ∷ []

abbrev pub choice_layer : Choice-F Imports Imports Imports Imports Imports Imports → Imports
choice_layer c = c.test ++ c.value

abbrev pub select_layer : Select-F Imports Imports Imports Imports Imports Imports → Imports
select_layer s = s.at

abbrev pub target_layer : Target-F Imports Imports Imports Imports Imports Imports → Imports
target_layer t = or_none t.element ++ or_none t.select

abbrev pub node_layer : ExprNode-F Imports Imports Imports Imports Imports Imports → Imports
node_layer (ExprNode-F.Const value) = []
node_layer (ExprNode-F.Read target) = target
node_layer (ExprNode-F.Prefix operators operand) = operand
node_layer (ExprNode-F.Level operands operators) = in_turn operands
node_layer (ExprNode-F.Choose choices last) = in_turn choices ++ last
node_layer (ExprNode-F.Concat parts) = in_turn parts
node_layer (ExprNode-F.Repeat count parts) = in_turn parts
node_layer (ExprNode-F.Call call) = call
node_layer (ExprNode-F.Sign operand) = operand

abbrev pub expr_layer : Expr-F Imports Imports Imports Imports Imports Imports → Imports
expr_layer e = e.node

unfoldable pub node_calls : ExprNode → Imports
node_calls = exprs.fold-ExprNode Imports Imports Imports Imports Imports Imports node_layer call_layer choice_layer expr_layer select_layer target_layer

unfoldable pub call_calls : Call → Imports
call_calls = exprs.fold-Call Imports Imports Imports Imports Imports Imports node_layer call_layer choice_layer expr_layer select_layer target_layer

unfoldable pub choice_calls : Choice → Imports
choice_calls = exprs.fold-Choice Imports Imports Imports Imports Imports Imports node_layer call_layer choice_layer expr_layer select_layer target_layer

unfoldable pub expr_calls : Expr → Imports
expr_calls = exprs.fold-Expr Imports Imports Imports Imports Imports Imports node_layer call_layer choice_layer expr_layer select_layer target_layer

unfoldable pub select_calls : Select → Imports
select_calls = exprs.fold-Select Imports Imports Imports Imports Imports Imports node_layer call_layer choice_layer expr_layer select_layer target_layer

unfoldable pub target_calls : Target → Imports
target_calls = exprs.fold-Target Imports Imports Imports Imports Imports Imports node_layer call_layer choice_layer expr_layer select_layer target_layer

-- ---- statements: the right side stands before the indices of the left one

abbrev pub write_calls : Place → Expr → Imports
write_calls place value = expr_calls value ++ flat_map target_calls place.parts

abbrev pub stmt_layer : Stmt-F Imports Imports Imports → Imports
stmt_layer (Stmt-F.Write place value) = write_calls place value
stmt_layer (Stmt-F.Later place value) = write_calls place value
stmt_layer (Stmt-F.If branches rest) = in_turn branches ++ in_turn rest
stmt_layer (Stmt-F.Case subject arms rest) = expr_calls subject ++ (in_turn arms ++ in_turn rest)
stmt_layer (Stmt-F.Do call) = call_calls call

abbrev pub arm_layer : Arm-F Imports Imports Imports → Imports
arm_layer arm = flat_map expr_calls arm.labels ++ in_turn arm.body

abbrev pub branch_layer : Branch-F Imports Imports Imports → Imports
branch_layer branch = expr_calls branch.test ++ in_turn branch.body

unfoldable pub stmt_calls : Stmt → Imports
stmt_calls = stmts.fold-Stmt Imports Imports Imports stmt_layer arm_layer branch_layer

unfoldable pub arm_calls : Arm → Imports
arm_calls = stmts.fold-Arm Imports Imports Imports stmt_layer arm_layer branch_layer

unfoldable pub branch_calls : Branch → Imports
branch_calls = stmts.fold-Branch Imports Imports Imports stmt_layer arm_layer branch_layer

-- ---- processes

abbrev pub proc_calls : Proc → Imports
proc_calls process = flat_map stmt_calls process.body

-- the calls of all processes, in elaboration order
abbrev pub all_calls : List Proc → Imports
all_calls procs = flat_map proc_calls procs

-- some process calls the import of this number
abbrev pub is_called : List Proc → ℕ → Bool
is_called procs import = list_any (λ n. n == import) (all_calls procs)
