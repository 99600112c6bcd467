use Rattle.std.proofs.Common.{◌≡◌, take, true}
use Rattle.std.specs.List.{list_all}
use Rattle.rtl_ir.specs.WithinStmt.{stmt_fits, arm_fits, branch_fits}
use Rattle.rtl_ir.proofs.within_stmt.+stmt_fits.Given as goal

abbrev pub invariant-stmts_fit-loop-stmt : goal.invariant-stmts_fit-loop-stmt
invariant-stmts_fit-loop-stmt l = list_all (stmt_fits l.counts) (take l.stmt-index l.stmts) ≡ true

abbrev pub invariant-branches_fit-loop-branch : goal.invariant-branches_fit-loop-branch
invariant-branches_fit-loop-branch l = list_all (branch_fits l.counts) (take l.branch-index l.branches) ≡ true

abbrev pub invariant-arms_fit-loop-arm : goal.invariant-arms_fit-loop-arm
invariant-arms_fit-loop-arm l = list_all (arm_fits l.counts) (take l.arm-index l.arms) ≡ true
