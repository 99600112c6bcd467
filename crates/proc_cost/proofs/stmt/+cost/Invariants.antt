use Rattle.std.proofs.Common.{◌≡◌, take}
use Rattle.std.specs.List.{sum_by}
use Rattle.proc_cost.specs.Costs.{onto, arm_cost, branch_cost, stmt_cost}
use Rattle.proc_cost.proofs.stmt.+cost.Given as goal

abbrev pub invariant-add_arms-loop-arm : goal.invariant-add_arms-loop-arm
invariant-add_arms-loop-arm l = l.cost ≡ onto l.so_far (sum_by arm_cost (take l.arm-index l.arms))

abbrev pub invariant-add_branches-loop-branch : goal.invariant-add_branches-loop-branch
invariant-add_branches-loop-branch l = l.cost ≡ onto l.so_far (sum_by branch_cost (take l.branch-index l.branches))

abbrev pub invariant-add_stmts-loop-stmt : goal.invariant-add_stmts-loop-stmt
invariant-add_stmts-loop-stmt l = l.cost ≡ onto l.so_far (sum_by stmt_cost (take l.stmt-index l.stmts))
