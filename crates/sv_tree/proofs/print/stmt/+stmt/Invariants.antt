use Rattle.std.proofs.Common.{map}
use Rattle.sv_tree.specs.TreeRead.{all_of}
use Rattle.sv_tree.specs.TreeStmt.{texts, stmt_read, branch_read, arm_read}
use Rattle.sv_tree.proofs.Printed.{Prints}
use Rattle.sv_tree.proofs.print.stmt.+stmt.Given as goal

abbrev pub invariant-print_stmts-loop-stmt : goal.invariant-print_stmts-loop-stmt
invariant-print_stmts-loop-stmt l = Prints (λ xs. (texts (map stmt_read xs)).print) l.initial.out l.body l.stmt-index l.out

abbrev pub invariant-print_branches-loop-branch : goal.invariant-print_branches-loop-branch
invariant-print_branches-loop-branch l = Prints (λ xs. (all_of (map branch_read xs)).print) l.initial.out l.branches l.branch-index l.out

abbrev pub invariant-print_arms-loop-arm : goal.invariant-print_arms-loop-arm
invariant-print_arms-loop-arm l = Prints (λ xs. (all_of (map arm_read xs)).print) l.initial.out l.arms l.arm-index l.out
