use Rattle.std.proofs.Common.{◌≡◌, take}
use Rattle.thread_pack.specs.Packing.{on_thread}
use Rattle.thread_pack.proofs.tasks.on_thread.Given as goal

abbrev pub invariant-loop-put : goal.invariant-loop-put
invariant-loop-put l = l.list ≡ on_thread (take l.put-index l.puts) l.thread
