use Rattle.std.proofs.Common.{◌∙◌, ap, take}
use Rattle.std.specs.List.{sum_by}
use Rattle.proc_cost.specs.Costs.{onto, arm_cost, branch_cost, stmt_cost}
use Rattle.proc_cost.specs.CostLaws.{onto_next}
use Rattle.proc_cost.proofs.stmt.+cost.Goals as goal

pub add_arms-loop-arm-preserved : goal.add_arms-loop-arm-preserved
add_arms-loop-arm-preserved m c =
    c.add_arm-cost.ensures
    ∙ ap (λ n. onto n (arm_cost c.arm-item.result)) c.loop-arm.invariant
    ∙ ap (λ x. onto (onto c.args.so_far (sum_by arm_cost (take c.loop-arm.arm-index c.args.arms.now))) (arm_cost x)) c.arm-item.is
    ∙ onto_next arm_cost c.args.so_far c.args.arms.now c.loop-arm.arm-index _ c.loop-arm-test.true

pub add_branches-loop-branch-preserved : goal.add_branches-loop-branch-preserved
add_branches-loop-branch-preserved m c =
    c.add_branch-cost.ensures
    ∙ ap (λ n. onto n (branch_cost c.branch-item.result)) c.loop-branch.invariant
    ∙ ap (λ x. onto (onto c.args.so_far (sum_by branch_cost (take c.loop-branch.branch-index c.args.branches.now))) (branch_cost x)) c.branch-item.is
    ∙ onto_next branch_cost c.args.so_far c.args.branches.now c.loop-branch.branch-index _ c.loop-branch-test.true

pub add_stmts-loop-stmt-preserved : goal.add_stmts-loop-stmt-preserved
add_stmts-loop-stmt-preserved m c =
    c.add_stmt-cost.ensures
    ∙ ap (λ n. onto n (stmt_cost c.stmt-item.result)) c.loop-stmt.invariant
    ∙ ap (λ x. onto (onto c.args.so_far (sum_by stmt_cost (take c.loop-stmt.stmt-index c.args.stmts.now))) (stmt_cost x)) c.stmt-item.is
    ∙ onto_next stmt_cost c.args.so_far c.args.stmts.now c.loop-stmt.stmt-index _ c.loop-stmt-test.true
