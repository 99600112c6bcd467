use Rattle.std.proofs.Common.{◌≡◌, ◌++◌, take}
use Rattle.std.specs.List.{flat_map}
use Rattle.proc_calls.specs.Calls.{arm_calls, branch_calls, stmt_calls}
use Rattle.proc_calls.proofs.stmt.+calls.Given as goal

abbrev pub invariant-add_arms-loop-arm : goal.invariant-add_arms-loop-arm
invariant-add_arms-loop-arm l = l.calls.items ≡ l.initial.calls.items ++ flat_map arm_calls (take l.arm-index l.arms)

abbrev pub invariant-add_branches-loop-branch : goal.invariant-add_branches-loop-branch
invariant-add_branches-loop-branch l = l.calls.items ≡ l.initial.calls.items ++ flat_map branch_calls (take l.branch-index l.branches)

abbrev pub invariant-add_stmts-loop-stmt : goal.invariant-add_stmts-loop-stmt
invariant-add_stmts-loop-stmt l = l.calls.items ≡ l.initial.calls.items ++ flat_map stmt_calls (take l.stmt-index l.stmts)
