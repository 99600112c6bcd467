use Rattle.std.proofs.Common.{◌≡◌}
use Rattle.task_code.proofs.load.load_columns.Given as goal

abbrev pub invariant-loop-number : goal.invariant-loop-number
invariant-loop-number l = (l.out.depth ≡ l.initial.out.depth) × (l.out.held ≡ l.initial.out.held)
