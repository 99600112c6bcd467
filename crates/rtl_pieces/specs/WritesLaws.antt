-- The equations of what a statement writes and reads, one for each form.
use Rattle.std.proofs.Common.{◌≡◌, ℕ, Bool, List, map, sym, ap, ◌∙◌}
use Rattle.rtl_ir.specs.declared.expr.Expr.{Expr}
use Rattle.rtl_ir.specs.declared.expr.Call.{Call}
use Rattle.rtl_ir.specs.declared.stmt.Place.{Place}
use Rattle.rtl_ir.specs.declared.stmt.Stmt.{Stmt}
use Rattle.rtl_ir.specs.declared.stmt.Arm.{Arm, out-Arm}
use Rattle.rtl_ir.specs.declared.stmt.Branch.{Branch, out-Branch}
use Rattle.rtl_ir.specs.declared.stmt.Stmt.TheOpen.{Stmt-F}
use Rattle.rtl_ir.specs.declared.stmt.Stmt.TheFolds.{fold-roll-Stmt, fold_out-Arm, fold_out-Branch}
use Rattle.rtl_ir.specs.declared.stmt.Stmt.TheVariants as stmt
use Rattle.rtl_pieces.specs.declared.range.BitRange.{BitRange}
use Rattle.rtl_pieces.specs.declared.item.Item.{Item}
use Rattle.rtl_pieces.specs.Reads.{Notes, in_order, expr_reads, exprs_read, call_reads}
use Rattle.rtl_pieces.specs.Writes.{place_writes, assignment_reads, write_stmt, write_arm, write_branch, read_stmt, read_arm, read_branch, stmt_writes, arm_writes, branch_writes, stmt_reads, arm_reads, branch_reads, body_writes, body_reads}

module _ (item : Bool → ℕ → Item) where
  pub writes-Write : (place : Place) (value : Expr) (found : List BitRange) → stmt_writes item (stmt.Write place value) found ≡ place_writes item place found
  unfolding stmt_writes
  writes-Write place value found = ap (λ (f : Notes). f found) (ap (stmt_writes item) (sym (stmt.rolls-Write place value)) ∙ fold-roll-Stmt Notes Notes Notes (write_stmt item) (write_arm item) (write_branch item) (Stmt-F.Write place value))

  pub writes-Later : (place : Place) (value : Expr) (found : List BitRange) → stmt_writes item (stmt.Later place value) found ≡ place_writes item place found
  unfolding stmt_writes
  writes-Later place value found = ap (λ (f : Notes). f found) (ap (stmt_writes item) (sym (stmt.rolls-Later place value)) ∙ fold-roll-Stmt Notes Notes Notes (write_stmt item) (write_arm item) (write_branch item) (Stmt-F.Later place value))

  pub writes-If : (branches : List Branch) (rest : List Stmt) (found : List BitRange) → stmt_writes item (stmt.If branches rest) found ≡ body_writes item rest (in_order (map (branch_writes item) branches) found)
  unfolding stmt_writes branch_writes
  writes-If branches rest found = ap (λ (f : Notes). f found) (ap (stmt_writes item) (sym (stmt.rolls-If branches rest)) ∙ fold-roll-Stmt Notes Notes Notes (write_stmt item) (write_arm item) (write_branch item) (Stmt-F.If branches rest))

  pub writes-Case : (subject : Expr) (arms : List Arm) (rest : List Stmt) (found : List BitRange) → stmt_writes item (stmt.Case subject arms rest) found ≡ body_writes item rest (in_order (map (arm_writes item) arms) found)
  unfolding stmt_writes arm_writes
  writes-Case subject arms rest found = ap (λ (f : Notes). f found) (ap (stmt_writes item) (sym (stmt.rolls-Case subject arms rest)) ∙ fold-roll-Stmt Notes Notes Notes (write_stmt item) (write_arm item) (write_branch item) (Stmt-F.Case subject arms rest))

  pub writes-Do : (call : Call) (found : List BitRange) → stmt_writes item (stmt.Do call) found ≡ found
  unfolding stmt_writes
  writes-Do call found = ap (λ (f : Notes). f found) (ap (stmt_writes item) (sym (stmt.rolls-Do call)) ∙ fold-roll-Stmt Notes Notes Notes (write_stmt item) (write_arm item) (write_branch item) (Stmt-F.Do call))

  pub arm_writes_is : (arm : Arm) (found : List BitRange) → arm_writes item arm found ≡ body_writes item (out-Arm arm).body found
  unfolding stmt_writes arm_writes
  arm_writes_is arm found = ap (λ (f : Notes). f found) (fold_out-Arm Notes Notes Notes (write_stmt item) (write_arm item) (write_branch item) arm)

  pub branch_writes_is : (branch : Branch) (found : List BitRange) → branch_writes item branch found ≡ body_writes item (out-Branch branch).body found
  unfolding stmt_writes branch_writes
  branch_writes_is branch found = ap (λ (f : Notes). f found) (fold_out-Branch Notes Notes Notes (write_stmt item) (write_arm item) (write_branch item) branch)

  pub reads-Write : (place : Place) (value : Expr) (found : List BitRange) → stmt_reads item (stmt.Write place value) found ≡ assignment_reads item place value found
  unfolding stmt_reads
  reads-Write place value found = ap (λ (f : Notes). f found) (ap (stmt_reads item) (sym (stmt.rolls-Write place value)) ∙ fold-roll-Stmt Notes Notes Notes (read_stmt item) (read_arm item) (read_branch item) (Stmt-F.Write place value))

  pub reads-Later : (place : Place) (value : Expr) (found : List BitRange) → stmt_reads item (stmt.Later place value) found ≡ assignment_reads item place value found
  unfolding stmt_reads
  reads-Later place value found = ap (λ (f : Notes). f found) (ap (stmt_reads item) (sym (stmt.rolls-Later place value)) ∙ fold-roll-Stmt Notes Notes Notes (read_stmt item) (read_arm item) (read_branch item) (Stmt-F.Later place value))

  pub reads-If : (branches : List Branch) (rest : List Stmt) (found : List BitRange) → stmt_reads item (stmt.If branches rest) found ≡ body_reads item rest (in_order (map (branch_reads item) branches) found)
  unfolding stmt_reads branch_reads
  reads-If branches rest found = ap (λ (f : Notes). f found) (ap (stmt_reads item) (sym (stmt.rolls-If branches rest)) ∙ fold-roll-Stmt Notes Notes Notes (read_stmt item) (read_arm item) (read_branch item) (Stmt-F.If branches rest))

  pub reads-Case : (subject : Expr) (arms : List Arm) (rest : List Stmt) (found : List BitRange) → stmt_reads item (stmt.Case subject arms rest) found ≡ body_reads item rest (in_order (map (arm_reads item) arms) (expr_reads item subject found))
  unfolding stmt_reads arm_reads
  reads-Case subject arms rest found = ap (λ (f : Notes). f found) (ap (stmt_reads item) (sym (stmt.rolls-Case subject arms rest)) ∙ fold-roll-Stmt Notes Notes Notes (read_stmt item) (read_arm item) (read_branch item) (Stmt-F.Case subject arms rest))

  pub reads-Do : (call : Call) (found : List BitRange) → stmt_reads item (stmt.Do call) found ≡ call_reads item call found
  unfolding stmt_reads
  reads-Do call found = ap (λ (f : Notes). f found) (ap (stmt_reads item) (sym (stmt.rolls-Do call)) ∙ fold-roll-Stmt Notes Notes Notes (read_stmt item) (read_arm item) (read_branch item) (Stmt-F.Do call))

  pub arm_reads_is : (arm : Arm) (found : List BitRange) → arm_reads item arm found ≡ body_reads item (out-Arm arm).body (exprs_read item (out-Arm arm).labels found)
  unfolding stmt_reads arm_reads
  arm_reads_is arm found = ap (λ (f : Notes). f found) (fold_out-Arm Notes Notes Notes (read_stmt item) (read_arm item) (read_branch item) arm)

  pub branch_reads_is : (branch : Branch) (found : List BitRange) → branch_reads item branch found ≡ body_reads item (out-Branch branch).body (expr_reads item (out-Branch branch).test found)
  unfolding stmt_reads branch_reads
  branch_reads_is branch found = ap (λ (f : Notes). f found) (fold_out-Branch Notes Notes Notes (read_stmt item) (read_arm item) (read_branch item) branch)

pub ruleset laws = (writes-Write, writes-Later, writes-If, writes-Case, writes-Do, arm_writes_is, branch_writes_is, reads-Write, reads-Later, reads-If, reads-Case, reads-Do, arm_reads_is, branch_reads_is)
