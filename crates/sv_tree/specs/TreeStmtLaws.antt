-- The equations of what a statement reads as, one for each form.
use Rattle.std.proofs.Common.{◌≡◌, List, map, Option, sym, ap, ◌∙◌}
use Rattle.sv_tree.specs.declared.token.Token.{Token}
use Rattle.sv_tree.specs.declared.tree.expr.Args.{Args}
use Rattle.sv_tree.specs.declared.tree.expr.Expr.{Expr}
use Rattle.sv_tree.specs.declared.tree.expr.Select.{Select}
use Rattle.sv_tree.specs.declared.tree.expr.Step.{Step}
use Rattle.sv_tree.specs.declared.tree.stmt.Arm.{Arm}
use Rattle.sv_tree.specs.declared.tree.stmt.Arm.TheOpen.{Arm-F, Stmt-F}
use Rattle.sv_tree.specs.declared.tree.stmt.Arm.TheFolds.{fold-roll-Arm, fold-roll-Stmt, fold-roll-Branch}
use Rattle.sv_tree.specs.declared.tree.stmt.Arm.TheVariants as arm
use Rattle.sv_tree.specs.declared.tree.stmt.Branch.{Branch, roll-Branch}
use Rattle.sv_tree.specs.declared.tree.stmt.LoopHead.{LoopHead}
use Rattle.sv_tree.specs.declared.tree.stmt.Lvalue.{Lvalue}
use Rattle.sv_tree.specs.declared.tree.stmt.Lvalue.TheFolds.{fold-roll-Lvalue, fold-roll-LvalueStep}
use Rattle.sv_tree.specs.declared.tree.stmt.Lvalue.TheOpen.{Lvalue-F}
use Rattle.sv_tree.specs.declared.tree.stmt.Lvalue.TheVariants as lvalue
use Rattle.sv_tree.specs.declared.tree.stmt.LvalueStep.{LvalueStep, roll-LvalueStep}
use Rattle.sv_tree.specs.declared.tree.stmt.Stmt.{Stmt}
use Rattle.sv_tree.specs.declared.tree.stmt.Stmt.TheVariants as stmt
use Rattle.sv_tree.specs.declared.tree.stmt.Test.{Test}
use Rattle.sv_tree.specs.declared.tree.words.Label.{Label}
use Rattle.sv_tree.specs.TreeRead.{Read}
use Rattle.sv_tree.specs.TreeStmt.{read_lvalue, read_lvalue_step, lvalue_read, lvalue_step_read, BodyRead, read_arm, read_stmt, read_branch, arm_read, stmt_read, branch_read}

pub lvalue-Name : (name : Token) (selects : List Select) → lvalue_read (lvalue.Name name selects) ≡ read_lvalue (Lvalue-F.Name name selects)
unfolding lvalue_read
lvalue-Name name selects = ap lvalue_read (sym (lvalue.rolls-Name name selects)) ∙ fold-roll-Lvalue Read Read read_lvalue read_lvalue_step (Lvalue-F.Name name selects)

pub lvalue-Concat : (opens : Token) (first : Lvalue) (more : List LvalueStep) (closes : Token) → lvalue_read (lvalue.Concat opens first more closes) ≡ read_lvalue (Lvalue-F.Concat opens (lvalue_read first) (map lvalue_step_read more) closes)
unfolding lvalue_read lvalue_step_read
lvalue-Concat opens first more closes = ap lvalue_read (sym (lvalue.rolls-Concat opens first more closes)) ∙ fold-roll-Lvalue Read Read read_lvalue read_lvalue_step (Lvalue-F.Concat opens first more closes)

pub lvalue_step-roll : (comma : Token) (target : Lvalue)
    → lvalue_step_read (roll-LvalueStep (record { comma = comma; target = target })) ≡ read_lvalue_step (record { comma = comma; target = lvalue_read target })
unfolding lvalue_step_read lvalue_read
lvalue_step-roll comma target = fold-roll-LvalueStep Read Read read_lvalue read_lvalue_step (record { comma = comma; target = target })

pub stmt-Empty : (t : Token) → stmt_read (stmt.Empty t) ≡ read_stmt (Stmt-F.Empty t)
unfolding stmt_read
stmt-Empty t = ap stmt_read (sym (stmt.rolls-Empty t)) ∙ fold-roll-Stmt Read BodyRead Read read_arm read_stmt read_branch (Stmt-F.Empty t)

pub stmt-Block : (begin : Token) (name : Option Label) (body : List Stmt) (end : Token) (end_name : Option Label) → stmt_read (stmt.Block begin name body end end_name) ≡ read_stmt (Stmt-F.Block begin name (map stmt_read body) end end_name)
unfolding stmt_read
stmt-Block begin name body end end_name = ap stmt_read (sym (stmt.rolls-Block begin name body end end_name)) ∙ fold-roll-Stmt Read BodyRead Read read_arm read_stmt read_branch (Stmt-F.Block begin name body end end_name)

pub stmt-If : (branches : List Branch) (test : Test) (body : Stmt) → stmt_read (stmt.If branches test body) ≡ read_stmt (Stmt-F.If (map branch_read branches) test (stmt_read body))
unfolding stmt_read branch_read
stmt-If branches test body = ap stmt_read (sym (stmt.rolls-If branches test body)) ∙ fold-roll-Stmt Read BodyRead Read read_arm read_stmt read_branch (Stmt-F.If branches test body)

pub stmt-IfElse : (branches : List Branch) (last : Stmt) → stmt_read (stmt.IfElse branches last) ≡ read_stmt (Stmt-F.IfElse (map branch_read branches) (stmt_read last))
unfolding stmt_read branch_read
stmt-IfElse branches last = ap stmt_read (sym (stmt.rolls-IfElse branches last)) ∙ fold-roll-Stmt Read BodyRead Read read_arm read_stmt read_branch (Stmt-F.IfElse branches last)

pub stmt-Case : (word opens : Token) (subject : Expr) (closes : Token) (arms : List Arm) (end : Token) → stmt_read (stmt.Case word opens subject closes arms end) ≡ read_stmt (Stmt-F.Case word opens subject closes (map arm_read arms) end)
unfolding stmt_read arm_read
stmt-Case word opens subject closes arms end = ap stmt_read (sym (stmt.rolls-Case word opens subject closes arms end)) ∙ fold-roll-Stmt Read BodyRead Read read_arm read_stmt read_branch (Stmt-F.Case word opens subject closes arms end)

pub stmt-For : (head : LoopHead) (body : Stmt) → stmt_read (stmt.For head body) ≡ read_stmt (Stmt-F.For head (stmt_read body))
unfolding stmt_read
stmt-For head body = ap stmt_read (sym (stmt.rolls-For head body)) ∙ fold-roll-Stmt Read BodyRead Read read_arm read_stmt read_branch (Stmt-F.For head body)

pub stmt-Assign : (target : Lvalue) (mark : Token) (value : Expr) (semicolon : Token) → stmt_read (stmt.Assign target mark value semicolon) ≡ read_stmt (Stmt-F.Assign target mark value semicolon)
unfolding stmt_read
stmt-Assign target mark value semicolon = ap stmt_read (sym (stmt.rolls-Assign target mark value semicolon)) ∙ fold-roll-Stmt Read BodyRead Read read_arm read_stmt read_branch (Stmt-F.Assign target mark value semicolon)

pub stmt-Call : (name opens : Token) (args : Args) (closes semicolon : Token) → stmt_read (stmt.Call name opens args closes semicolon) ≡ read_stmt (Stmt-F.Call name opens args closes semicolon)
unfolding stmt_read
stmt-Call name opens args closes semicolon = ap stmt_read (sym (stmt.rolls-Call name opens args closes semicolon)) ∙ fold-roll-Stmt Read BodyRead Read read_arm read_stmt read_branch (Stmt-F.Call name opens args closes semicolon)

pub arm-Labels : (first : Expr) (more : List Step) (colon : Token) (body : Stmt) → arm_read (arm.Labels first more colon body) ≡ read_arm (Arm-F.Labels first more colon (stmt_read body))
unfolding arm_read stmt_read
arm-Labels first more colon body = ap arm_read (sym (arm.rolls-Labels first more colon body)) ∙ fold-roll-Arm Read BodyRead Read read_arm read_stmt read_branch (Arm-F.Labels first more colon body)

pub arm-Default : (word : Token) (colon : Option Token) (body : Stmt) → arm_read (arm.Default word colon body) ≡ read_arm (Arm-F.Default word colon (stmt_read body))
unfolding arm_read stmt_read
arm-Default word colon body = ap arm_read (sym (arm.rolls-Default word colon body)) ∙ fold-roll-Arm Read BodyRead Read read_arm read_stmt read_branch (Arm-F.Default word colon body)

pub branch-roll : (test : Test) (body : Stmt) (else_word : Token)
    → branch_read (roll-Branch (record { test = test; body = body; else_word = else_word })) ≡ read_branch (record { test = test; body = stmt_read body; else_word = else_word })
unfolding branch_read stmt_read
branch-roll test body else_word = fold-roll-Branch Read BodyRead Read read_arm read_stmt read_branch (record { test = test; body = body; else_word = else_word })
