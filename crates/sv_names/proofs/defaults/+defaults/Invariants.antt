use Rattle.std.proofs.Common.{◌≡◌, drop, map, false}
use Rattle.sv_names.specs.Defaults.{stmt_notes, branch_notes, arm_notes, in_order, arms_in_order}
use Rattle.sv_names.proofs.defaults.+defaults.Given as goal

abbrev pub invariant-in_statements-loop-stmt : goal.invariant-in_statements-loop-stmt
invariant-in_statements-loop-stmt l = in_order (map stmt_notes (drop l.stmt-index l.body)) l.found ≡ in_order (map stmt_notes l.body) l.initial.found

abbrev pub invariant-in_branches-loop-branch : goal.invariant-in_branches-loop-branch
invariant-in_branches-loop-branch l = in_order (map branch_notes (drop l.branch-index l.branches)) l.found ≡ in_order (map branch_notes l.branches) l.initial.found

abbrev pub invariant-in_arms-loop-arm : goal.invariant-in_arms-loop-arm
invariant-in_arms-loop-arm l = arms_in_order l.has_default (map arm_notes (drop l.arm-index l.arms)) l.found ≡ arms_in_order false (map arm_notes l.arms) l.initial.found
