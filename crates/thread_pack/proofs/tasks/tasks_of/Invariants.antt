use Rattle.std.proofs.Common.{◌≡◌, ◌≤◌, length, map, drop}
use Rattle.std.specs.List.{range_with_len}
use Rattle.thread_pack.specs.Packing.{task_in}
use Rattle.thread_pack.proofs.tasks.tasks_of.Given as goal

abbrev pub invariant-down : goal.invariant-down
invariant-down l = record { low : l.i ≤ length l.puts; len : length l.list.items ≡ l.tasks; so_far : l.list.items ≡ map (task_in (drop l.i l.puts)) (range_with_len 0 l.tasks) }

abbrev pub decreases-down : goal.decreases-down
decreases-down l = l.i
