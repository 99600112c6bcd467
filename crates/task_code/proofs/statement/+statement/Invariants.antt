use Rattle.std.proofs.Common.{◌≡◌}
use Rattle.task_code.proofs.statement.+statement.Given as goal

abbrev pub invariant-statements-loop-number : goal.invariant-statements-loop-number
invariant-statements-loop-number l = (l.out.depth ≡ l.initial.out.depth) × (l.out.held ≡ l.initial.out.held)

abbrev pub invariant-all_branches-loop-number : goal.invariant-all_branches-loop-number
invariant-all_branches-loop-number l = (l.out.depth ≡ l.initial.out.depth) × (l.out.held ≡ l.initial.out.held)

abbrev pub invariant-all_arms-loop-number : goal.invariant-all_arms-loop-number
invariant-all_arms-loop-number l = (l.out.depth ≡ l.initial.out.depth) × (l.out.held ≡ l.initial.out.held)
