use Rattle.std.proofs.Common.{◌≡◌, take}
use Rattle.thread_pack.specs.Packing.{order_of}
use Rattle.thread_pack.proofs.tasks.order_of.Given as goal

abbrev pub invariant-loop-put : goal.invariant-loop-put
invariant-loop-put l = l.list ≡ order_of (take l.put-index l.puts)
