use Rattle.std.proofs.Common.{◌≡◌, None, length, get_or}
use Rattle.thread_pack.specs.Packing.{first_of}
use Rattle.thread_pack.specs.Tables.{choices_by, members_below}
use Rattle.thread_pack.proofs.choose.choose.Given as goal

abbrev pub invariant-loop-t : goal.invariant-loop-t
invariant-loop-t l = l.best ≡ first_of (λ k. get_or l.tails k 0) None (choices_by l.free l.arrive (length l.free) (members_below l.ready.words.items l.t))
