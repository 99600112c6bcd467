-- The equations of what is noted of a statement, one for each form.
use Rattle.std.proofs.Common.{◌≡◌, List, map, Option, sym, ap, ◌∙◌}
use Rattle.sv_tree.specs.declared.token.Token.{Token}
use Rattle.sv_tree.specs.declared.tree.expr.Args.{Args}
use Rattle.sv_tree.specs.declared.tree.expr.Expr.{Expr}
use Rattle.sv_tree.specs.declared.tree.expr.Step.{Step}
use Rattle.sv_tree.specs.declared.tree.stmt.Arm.{Arm}
use Rattle.sv_tree.specs.declared.tree.stmt.Arm.TheOpen.{Arm-F, Stmt-F}
use Rattle.sv_tree.specs.declared.tree.stmt.Arm.TheFolds.{fold-roll-Arm, fold-roll-Stmt, fold-roll-Branch}
use Rattle.sv_tree.specs.declared.tree.stmt.Arm.TheVariants as arm
use Rattle.sv_tree.specs.declared.tree.stmt.Branch.{Branch, roll-Branch}
use Rattle.sv_tree.specs.declared.tree.stmt.LoopHead.{LoopHead}
use Rattle.sv_tree.specs.declared.tree.stmt.Lvalue.{Lvalue}
use Rattle.sv_tree.specs.declared.tree.stmt.Stmt.{Stmt}
use Rattle.sv_tree.specs.declared.tree.stmt.Stmt.TheVariants as stmt
use Rattle.sv_tree.specs.declared.tree.stmt.Test.{Test}
use Rattle.sv_tree.specs.declared.tree.words.Label.{Label}
use Rattle.sv_names.specs.Defaults.{ArmNotes, Notes, note_arm, note_stmt, note_branch, arm_notes, stmt_notes, branch_notes}

pub stmt-Empty : (t : Token) → stmt_notes (stmt.Empty t) ≡ note_stmt (Stmt-F.Empty t)
unfolding stmt_notes
stmt-Empty t = ap stmt_notes (sym (stmt.rolls-Empty t)) ∙ fold-roll-Stmt ArmNotes Notes Notes note_arm note_stmt note_branch (Stmt-F.Empty t)

pub stmt-Block : (begin : Token) (name : Option Label) (body : List Stmt) (end : Token) (end_name : Option Label) → stmt_notes (stmt.Block begin name body end end_name) ≡ note_stmt (Stmt-F.Block begin name (map stmt_notes body) end end_name)
unfolding stmt_notes
stmt-Block begin name body end end_name = ap stmt_notes (sym (stmt.rolls-Block begin name body end end_name)) ∙ fold-roll-Stmt ArmNotes Notes Notes note_arm note_stmt note_branch (Stmt-F.Block begin name body end end_name)

pub stmt-If : (branches : List Branch) (test : Test) (body : Stmt) → stmt_notes (stmt.If branches test body) ≡ note_stmt (Stmt-F.If (map branch_notes branches) test (stmt_notes body))
unfolding stmt_notes branch_notes
stmt-If branches test body = ap stmt_notes (sym (stmt.rolls-If branches test body)) ∙ fold-roll-Stmt ArmNotes Notes Notes note_arm note_stmt note_branch (Stmt-F.If branches test body)

pub stmt-IfElse : (branches : List Branch) (last : Stmt) → stmt_notes (stmt.IfElse branches last) ≡ note_stmt (Stmt-F.IfElse (map branch_notes branches) (stmt_notes last))
unfolding stmt_notes branch_notes
stmt-IfElse branches last = ap stmt_notes (sym (stmt.rolls-IfElse branches last)) ∙ fold-roll-Stmt ArmNotes Notes Notes note_arm note_stmt note_branch (Stmt-F.IfElse branches last)

pub stmt-Case : (word opens : Token) (subject : Expr) (closes : Token) (arms : List Arm) (end : Token) → stmt_notes (stmt.Case word opens subject closes arms end) ≡ note_stmt (Stmt-F.Case word opens subject closes (map arm_notes arms) end)
unfolding stmt_notes arm_notes
stmt-Case word opens subject closes arms end = ap stmt_notes (sym (stmt.rolls-Case word opens subject closes arms end)) ∙ fold-roll-Stmt ArmNotes Notes Notes note_arm note_stmt note_branch (Stmt-F.Case word opens subject closes arms end)

pub stmt-For : (head : LoopHead) (body : Stmt) → stmt_notes (stmt.For head body) ≡ note_stmt (Stmt-F.For head (stmt_notes body))
unfolding stmt_notes
stmt-For head body = ap stmt_notes (sym (stmt.rolls-For head body)) ∙ fold-roll-Stmt ArmNotes Notes Notes note_arm note_stmt note_branch (Stmt-F.For head body)

pub stmt-Assign : (target : Lvalue) (mark : Token) (value : Expr) (semicolon : Token) → stmt_notes (stmt.Assign target mark value semicolon) ≡ note_stmt (Stmt-F.Assign target mark value semicolon)
unfolding stmt_notes
stmt-Assign target mark value semicolon = ap stmt_notes (sym (stmt.rolls-Assign target mark value semicolon)) ∙ fold-roll-Stmt ArmNotes Notes Notes note_arm note_stmt note_branch (Stmt-F.Assign target mark value semicolon)

pub stmt-Call : (name opens : Token) (args : Args) (closes semicolon : Token) → stmt_notes (stmt.Call name opens args closes semicolon) ≡ note_stmt (Stmt-F.Call name opens args closes semicolon)
unfolding stmt_notes
stmt-Call name opens args closes semicolon = ap stmt_notes (sym (stmt.rolls-Call name opens args closes semicolon)) ∙ fold-roll-Stmt ArmNotes Notes Notes note_arm note_stmt note_branch (Stmt-F.Call name opens args closes semicolon)

pub arm-Labels : (first : Expr) (more : List Step) (colon : Token) (body : Stmt) → arm_notes (arm.Labels first more colon body) ≡ note_arm (Arm-F.Labels first more colon (stmt_notes body))
unfolding arm_notes stmt_notes
arm-Labels first more colon body = ap arm_notes (sym (arm.rolls-Labels first more colon body)) ∙ fold-roll-Arm ArmNotes Notes Notes note_arm note_stmt note_branch (Arm-F.Labels first more colon body)

pub arm-Default : (word : Token) (colon : Option Token) (body : Stmt) → arm_notes (arm.Default word colon body) ≡ note_arm (Arm-F.Default word colon (stmt_notes body))
unfolding arm_notes stmt_notes
arm-Default word colon body = ap arm_notes (sym (arm.rolls-Default word colon body)) ∙ fold-roll-Arm ArmNotes Notes Notes note_arm note_stmt note_branch (Arm-F.Default word colon body)

pub branch-roll : (test : Test) (body : Stmt) (else_word : Token)
    → branch_notes (roll-Branch (record { test = test; body = body; else_word = else_word })) ≡ note_branch (record { test = test; body = stmt_notes body; else_word = else_word })
unfolding branch_notes stmt_notes
branch-roll test body else_word = fold-roll-Branch ArmNotes Notes Notes note_arm note_stmt note_branch (record { test = test; body = body; else_word = else_word })
