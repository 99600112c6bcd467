use Rattle.std.proofs.Common.{◌≡◌, ◌≤◌, length}
use Rattle.task_eval.specs.Course.{course}
use Rattle.task_eval.specs.Soundness.{IsSoundFrom}
use Rattle.task_eval.specs.Frames.{last}
use Rattle.task_eval.proofs.frame.advance.Given as goal

abbrev pub invariant-loop-rest : goal.invariant-loop-rest
invariant-loop-rest l = record {
  same : course l.rest 0 l.stack.values ≡ course l.ops 0 l.initial.stack.values;
  sound : IsSoundFrom l.initial.stack.room l.rest 0 (length l.stack.values);
  room : l.stack.room ≡ l.initial.stack.room;
  within : length l.rest ≤ length l.ops;
  is_last : l.rest ≡ last (length l.rest) l.ops;
}

abbrev pub decreases-loop-rest : goal.decreases-loop-rest
decreases-loop-rest l = length l.rest
