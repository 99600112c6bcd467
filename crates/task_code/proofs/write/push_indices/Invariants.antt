use Rattle.std.proofs.Common.{◌≡◌, ◌+◌, length}
use Rattle.task_code.proofs.write.push_indices.Given as goal

abbrev pub invariant-loop-number : goal.invariant-loop-number
invariant-loop-number l = (l.out.depth + length l.indices ≡ l.initial.out.depth + l.number) × (l.out.held ≡ l.initial.out.held)
