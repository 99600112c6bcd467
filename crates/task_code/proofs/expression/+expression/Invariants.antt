use Rattle.std.proofs.Common.{◌≡◌, ◌+◌, length}
use Rattle.task_code.proofs.expression.+expression.Given as goal

abbrev pub invariant-level-loop-number : goal.invariant-level-loop-number
invariant-level-loop-number l = (l.out.depth ≡ l.initial.out.depth) × (l.out.held ≡ l.initial.out.held)

abbrev pub invariant-all_choices-loop-number : goal.invariant-all_choices-loop-number
invariant-all_choices-loop-number l = (l.out.depth ≡ l.initial.out.depth) × (l.out.held ≡ l.initial.out.held)

abbrev pub invariant-concat-loop-number : goal.invariant-concat-loop-number
invariant-concat-loop-number l = (l.out.depth ≡ l.initial.out.depth) × (l.out.held ≡ l.initial.out.held)

abbrev pub invariant-call-loop-number : goal.invariant-call-loop-number
invariant-call-loop-number l = (l.out.depth + length l.args ≡ l.initial.out.depth + l.number) × (l.out.held ≡ l.initial.out.held)
