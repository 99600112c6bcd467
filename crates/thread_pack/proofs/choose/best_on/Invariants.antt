use Rattle.std.proofs.Common.{◌≡◌, get_or}
use Rattle.thread_pack.specs.Packing.{first_of}
use Rattle.thread_pack.specs.Tables.{row_choices}
use Rattle.thread_pack.proofs.choose.best_on.Given as goal

abbrev pub invariant-loop-thread : goal.invariant-loop-thread
invariant-loop-thread l = l.now ≡ first_of (λ k. get_or l.tails k 0) l.fn.best (row_choices l.task l.free l.row l.thread)
