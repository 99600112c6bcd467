-- What a process costs to run, by its operators, calls, selects, assignments and tests. Both branches of a test count, and a loop
-- is unrolled already.
use Rattle.std.specs.Prelude.{ℕ, ◌+◌, ◌-◌, ◌^◌, min, if◌then◌else◌, length, Option, Some, None}
use Rattle.std.specs.List.{sum, sum_by}
use Rattle.rtl_ir.specs.declared.expr.Expr.{Expr}
use Rattle.rtl_ir.specs.declared.expr.ExprNode.{ExprNode}
use Rattle.rtl_ir.specs.declared.expr.Choice.{Choice}
use Rattle.rtl_ir.specs.declared.expr.Call.{Call}
use Rattle.rtl_ir.specs.declared.expr.Target.{Target}
use Rattle.rtl_ir.specs.declared.expr.Select.{Select}
use Rattle.rtl_ir.specs.declared.expr.ExprNode.TheOpen.{Expr-F, ExprNode-F, Choice-F, Call-F, Target-F, Select-F}
use Rattle.rtl_ir.specs.declared.expr.ExprNode.TheFolds as exprs
use Rattle.rtl_ir.specs.declared.operator.BinaryOp.{BinaryOp}
use Rattle.rtl_ir.specs.declared.operator.BinaryOp.TheVariants as op
use Rattle.rtl_ir.specs.declared.stmt.Place.{Place}
use Rattle.rtl_ir.specs.declared.stmt.Stmt.{Stmt}
use Rattle.rtl_ir.specs.declared.stmt.Arm.{Arm}
use Rattle.rtl_ir.specs.declared.stmt.Branch.{Branch}
use Rattle.rtl_ir.specs.declared.stmt.Stmt.TheOpen.{Stmt-F, Arm-F, Branch-F}
use Rattle.rtl_ir.specs.declared.stmt.Stmt.TheFolds as stmts
use Rattle.rtl_ir.specs.declared.design.Proc.{Proc}

-- an operator costs 1, a product 3, a quotient or a remainder 10
abbrev pub op_cost : BinaryOp → ℕ
op_cost op.Mul = 3
op_cost op.Div = 10
op_cost op.Rem = 10
op_cost op.Add = 1
op_cost op.Sub = 1
op_cost op.Shl = 1
op_cost op.Shr = 1
op_cost op.AShl = 1
op_cost op.AShr = 1
op_cost op.Lt = 1
op_cost op.Le = 1
op_cost op.Gt = 1
op_cost op.Ge = 1
op_cost op.Eq = 1
op_cost op.Ne = 1
op_cost op.And = 1
op_cost op.Xor = 1
op_cost op.Xnor = 1
op_cost op.Or = 1
op_cost op.LogAnd = 1
op_cost op.LogOr = 1

-- a call costs 20 and its arguments
abbrev pub call_layer : Call-F ℕ ℕ ℕ ℕ ℕ ℕ → ℕ
call_layer c = 20 + sum c.args

-- a test of a `?:`
abbrev pub choice_layer : Choice-F ℕ ℕ ℕ ℕ ℕ ℕ → ℕ
choice_layer c = 1 + (c.test + c.value)

abbrev pub select_layer : Select-F ℕ ℕ ℕ ℕ ℕ ℕ → ℕ
select_layer s = s.at

-- an index that is not constant costs 1 and what it computes
abbrev pub index_cost : Option ℕ → ℕ
index_cost (Some n) = 1 + n
index_cost None = 0

-- a name costs nothing, nor do constant selects
abbrev pub target_layer : Target-F ℕ ℕ ℕ ℕ ℕ ℕ → ℕ
target_layer t = if t.whole then index_cost t.element + index_cost t.select else 0

abbrev pub node_layer : ExprNode-F ℕ ℕ ℕ ℕ ℕ ℕ → ℕ
node_layer (ExprNode-F.Const value) = 0
node_layer (ExprNode-F.Read target) = target
node_layer (ExprNode-F.Prefix operators operand) = length operators + operand
node_layer (ExprNode-F.Level operands operators) = sum_by op_cost operators + sum operands
node_layer (ExprNode-F.Choose choices last) = sum choices + last
node_layer (ExprNode-F.Concat parts) = sum parts
node_layer (ExprNode-F.Repeat count parts) = sum parts
node_layer (ExprNode-F.Call call) = call
node_layer (ExprNode-F.Sign operand) = operand

abbrev pub expr_layer : Expr-F ℕ ℕ ℕ ℕ ℕ ℕ → ℕ
expr_layer e = e.node

unfoldable pub node_cost : ExprNode → ℕ
node_cost = exprs.fold-ExprNode ℕ ℕ ℕ ℕ ℕ ℕ node_layer call_layer choice_layer expr_layer select_layer target_layer

unfoldable pub call_cost : Call → ℕ
call_cost = exprs.fold-Call ℕ ℕ ℕ ℕ ℕ ℕ node_layer call_layer choice_layer expr_layer select_layer target_layer

unfoldable pub choice_cost : Choice → ℕ
choice_cost = exprs.fold-Choice ℕ ℕ ℕ ℕ ℕ ℕ node_layer call_layer choice_layer expr_layer select_layer target_layer

unfoldable pub expr_cost : Expr → ℕ
expr_cost = exprs.fold-Expr ℕ ℕ ℕ ℕ ℕ ℕ node_layer call_layer choice_layer expr_layer select_layer target_layer

unfoldable pub select_cost : Select → ℕ
select_cost = exprs.fold-Select ℕ ℕ ℕ ℕ ℕ ℕ node_layer call_layer choice_layer expr_layer select_layer target_layer

unfoldable pub target_cost : Target → ℕ
target_cost = exprs.fold-Target ℕ ℕ ℕ ℕ ℕ ℕ node_layer call_layer choice_layer expr_layer select_layer target_layer

-- ---- statements

-- an assignment costs 1, the indices of its left side and its right side
abbrev pub write_cost : Place → Expr → ℕ
write_cost place value = 1 + (sum_by target_cost place.parts + expr_cost value)

abbrev pub stmt_layer : Stmt-F ℕ ℕ ℕ → ℕ
stmt_layer (Stmt-F.Write place value) = write_cost place value
stmt_layer (Stmt-F.Later place value) = write_cost place value
stmt_layer (Stmt-F.If branches rest) = sum branches + sum rest
stmt_layer (Stmt-F.Case subject arms rest) = expr_cost subject + (sum arms + sum rest)
stmt_layer (Stmt-F.Do call) = call_cost call

-- each label costs 1 and what it computes
abbrev pub label_cost : Expr → ℕ
label_cost label = 1 + expr_cost label

abbrev pub arm_layer : Arm-F ℕ ℕ ℕ → ℕ
arm_layer arm = sum_by label_cost arm.labels + sum arm.body

-- an `if` costs 1
abbrev pub branch_layer : Branch-F ℕ ℕ ℕ → ℕ
branch_layer branch = 1 + (expr_cost branch.test + sum branch.body)

unfoldable pub stmt_cost : Stmt → ℕ
stmt_cost = stmts.fold-Stmt ℕ ℕ ℕ stmt_layer arm_layer branch_layer

unfoldable pub arm_cost : Arm → ℕ
arm_cost = stmts.fold-Arm ℕ ℕ ℕ stmt_layer arm_layer branch_layer

unfoldable pub branch_cost : Branch → ℕ
branch_cost = stmts.fold-Branch ℕ ℕ ℕ stmt_layer arm_layer branch_layer

-- a process costs what its statements cost, each branch and each turn
abbrev pub proc_cost : Proc → ℕ
proc_cost process = sum_by stmt_cost process.body

-- so many more, up to what 32 bits hold
unfoldable pub onto : ℕ → ℕ → ℕ
onto so_far cost = min (so_far + cost) (2 ^ 32 - 1)
