use Rattle.std.proofs.Common.{◌≡◌, map}
use Rattle.std.specs.List.{range_with_len}
use Rattle.thread_pack.specs.Packing.{on_thread}
use Rattle.thread_pack.proofs.tasks.lists_of.Given as goal

abbrev pub invariant-loop-thread : goal.invariant-loop-thread
invariant-loop-thread l = l.lists ≡ map (on_thread l.puts) (range_with_len 0 l.thread)
