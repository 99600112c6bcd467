use Rattle.std.proofs.Common.{length}
use Rattle.stimulus.proofs.Counts.{Counting}
use Rattle.stimulus.proofs.number.read_count.Given as goal

abbrev pub invariant-digits : goal.invariant-digits
invariant-digits l = Counting l.text l.rest l.value

abbrev pub decreases-digits : goal.decreases-digits
decreases-digits l = length l.rest
