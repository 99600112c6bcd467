use Rattle.std.proofs.Common.{length}
use Rattle.vsim_words.proofs.Counts.{Numbering}
use Rattle.vsim_words.proofs.values.number.Given as goal

abbrev pub invariant-digits : goal.invariant-digits
invariant-digits l = Numbering l.text l.rest l.value

abbrev pub decreases-digits : goal.decreases-digits
decreases-digits l = length l.rest
