use Rattle.std.proofs.Common.{◌≡◌, ◌&&◌, ℕ, length}
use Rattle.rtl_pieces.specs.Line.{has}
use Rattle.rtl_pieces.specs.Words.{noted, noted_also, in_list}
use Rattle.rtl_pieces.proofs.writer.mark_ranges.Given as goal

abbrev pub invariant-loop-rest : goal.invariant-loop-rest
invariant-loop-rest l = (b : ℕ) → noted_also (noted l.writers b) (in_list l.initial.writers b && has b l.rest) l.proc ≡ noted_also (noted l.initial.writers b) (in_list l.initial.writers b && has b l.ranges) l.proc

abbrev pub decreases-loop-rest : goal.decreases-loop-rest
decreases-loop-rest l = length l.rest
