use Rattle.std.proofs.Common.{◌≡◌, Option, map, sym, ap, ◌∙◌, subst, add-one}
use Rattle.sv_tree.specs.declared.tree.stmt.Arm.{Arm}
use Rattle.sv_tree.specs.declared.tree.stmt.Stmt.{Stmt}
use Rattle.sv_tree.specs.TreeRead.{Tokens, Read, all_of}
use Rattle.sv_tree.specs.Printed.{Appends}
use Rattle.sv_tree.specs.TreeStmt.{BodyRead, arm_read, stmt_read, branch_read}
use Rattle.sv_tree.specs.TreeStmtLaws.{stmt-Empty, stmt-Block, stmt-If, stmt-IfElse, stmt-Case, stmt-For, stmt-Assign, stmt-Call, arm-Labels, arm-Default, branch-roll}
use Rattle.sv_tree.proofs.Printed.{◌and◌, prints_next}
use Rattle.sv_tree.proofs.print.stmt.+stmt.Goals as goal

module _ {old new : Option Tokens} {e f : Stmt} {r : BodyRead} where
  by_stmt : e ≡ f → stmt_read f ≡ r → Appends old r.text.print new → Appends old (stmt_read e).text.print new
  by_stmt is reads h = subst (λ x. Appends old x.text.print new) (sym (ap stmt_read is ∙ reads)) h

module _ {old new : Option Tokens} {e f : Arm} {r : Read} where
  by_arm : e ≡ f → arm_read f ≡ r → Appends old r.print new → Appends old (arm_read e).print new
  by_arm is reads h = subst (λ x. Appends old x.print new) (sym (ap arm_read is ∙ reads)) h

pub print_stmt-returns-in-Empty : goal.print_stmt-returns-in-Empty
print_stmt-returns-in-Empty t c = by_stmt c.in-Empty.is (stmt-Empty _) c.push.ensures

pub print_stmt-returns-in-Block : goal.print_stmt-returns-in-Block
print_stmt-returns-in-Block t c =
    by_stmt c.in-Block.is (stmt-Block _ _ _ _ _)
    (c.push-in-Block.ensures and c.print.ensures and (rw c.as_slice.ensures at c.print_stmts.ensures) and c.push-in-Block-2.ensures and c.print-in-Block.ensures)

pub print_stmt-returns-in-If : goal.print_stmt-returns-in-If
print_stmt-returns-in-If t c =
    by_stmt c.in-If.is (stmt-If _ _ _)
    ((rw c.as_slice-in-If.ensures at c.print_branches.ensures) and c.print-in-If.ensures and (rw c.get.ensures at c.print_stmt.ensures))

pub print_stmt-returns-in-IfElse : goal.print_stmt-returns-in-IfElse
print_stmt-returns-in-IfElse t c =
    by_stmt c.in-IfElse.is (stmt-IfElse _ _)
    ((rw c.as_slice-in-IfElse.ensures at c.print_branches-in-IfElse.ensures) and (rw c.get-in-IfElse.ensures at c.print_stmt-in-IfElse.ensures))

pub print_stmt-returns-in-Case : goal.print_stmt-returns-in-Case
print_stmt-returns-in-Case t c =
    by_stmt c.in-Case.is (stmt-Case _ _ _ _ _ _)
    (c.push-in-Case.ensures and c.push-in-Case-2.ensures and c.print-in-Case.ensures and c.push-in-Case-3.ensures
    and (rw c.as_slice-in-Case.ensures at c.print_arms.ensures) and c.push-in-Case-4.ensures)

pub print_stmt-returns-in-For : goal.print_stmt-returns-in-For
print_stmt-returns-in-For t c = by_stmt c.in-For.is (stmt-For _ _) (c.print-in-For.ensures and (rw c.get-in-For.ensures at c.print_stmt-in-For.ensures))

pub print_stmt-returns-in-Assign : goal.print_stmt-returns-in-Assign
print_stmt-returns-in-Assign t c =
    by_stmt c.in-Assign.is (stmt-Assign _ _ _ _) (c.print-in-Assign.ensures and c.push-in-Assign.ensures and c.print-in-Assign-2.ensures and c.push-in-Assign-2.ensures)

pub print_stmt-returns-in-Call : goal.print_stmt-returns-in-Call
print_stmt-returns-in-Call t c =
    by_stmt c.in-Call.is (stmt-Call _ _ _ _ _)
    (c.push-in-Call.ensures and c.push-in-Call-2.ensures and c.print_args.ensures and c.push-in-Call-3.ensures and c.push-in-Call-4.ensures)

pub print_arm-returns-in-Labels : goal.print_arm-returns-in-Labels
print_arm-returns-in-Labels t c =
    by_arm c.in-Labels.is (arm-Labels _ _ _ _)
    (c.print.ensures and (rw c.as_slice.ensures at c.print_steps.ensures) and c.push.ensures and (rw c.get.ensures at c.print_stmt.ensures))

pub print_arm-returns-in-Default : goal.print_arm-returns-in-Default
print_arm-returns-in-Default t c =
    by_arm c.in-Default.is (arm-Default _ _ _) (c.push-in-Default.ensures and c.print-in-Default.ensures and (rw c.get-in-Default.ensures at c.print_stmt-in-Default.ensures))

pub print_branches-loop-branch-preserved : goal.print_branches-loop-branch-preserved
print_branches-loop-branch-preserved t c =
    let reads = branch-roll c.branch-item.result.test c.branch-item.result.body c.branch-item.result.else_word in
    rw add-one (prints_next c.branch-item.result c.loop-branch-test.true c.branch-item.is (λ rest r. ap (λ x. x.print ((all_of (map branch_read rest)).print r)) reads)
    (c.print.ensures and c.print_stmt.ensures and c.push.ensures) c.loop-branch.invariant)
