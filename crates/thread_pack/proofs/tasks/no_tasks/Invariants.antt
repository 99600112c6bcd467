use Rattle.std.proofs.Common.{◌≡◌, [], map}
use Rattle.std.specs.List.{range_with_len}
use Rattle.thread_pack.specs.Packing.{task_in}
use Rattle.thread_pack.proofs.tasks.no_tasks.Given as goal

abbrev pub invariant-loop-t : goal.invariant-loop-t
invariant-loop-t l = l.list.items ≡ map (task_in []) (range_with_len 0 l.t)
