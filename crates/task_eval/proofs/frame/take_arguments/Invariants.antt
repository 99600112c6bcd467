use Rattle.std.proofs.Common.{◌≡◌, ◌≤◌, ◌-◌, take, drop}
use Rattle.task_eval.specs.Moves.{arguments}
use Rattle.task_eval.proofs.frame.take_arguments.Given as goal

abbrev pub invariant-loop-left : goal.invariant-loop-left
invariant-loop-left l = record {
  within : l.left ≤ l.count;
  args : drop l.left (take l.count l.args) ≡ arguments (take (l.count - l.left) l.initial.stack.values);
  stack : l.stack.values ≡ drop (l.count - l.left) l.initial.stack.values;
  room : l.stack.room ≡ l.initial.stack.room;
}

abbrev pub decreases-loop-left : goal.decreases-loop-left
decreases-loop-left l = l.left
