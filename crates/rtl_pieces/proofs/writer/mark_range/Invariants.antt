use Rattle.std.proofs.Common.{◌≡◌, ◌-◌, ◌≤◌, ◌&&◌, ℕ, max}
use Rattle.std.specs.Prelude.{nat_le, nat_lt}
use Rattle.rtl_pieces.specs.Words.{noted, noted_also, in_list}
use Rattle.rtl_pieces.proofs.writer.mark_range.Given as goal

abbrev pub invariant-loop-place : goal.invariant-loop-place
invariant-loop-place l =
    ((b : ℕ) → noted l.writers b ≡ noted_also (noted l.initial.writers b) (in_list l.initial.writers b && (nat_le l.range.from b && nat_lt b l.place)) l.proc)
    × (l.range.from ≤ l.place)
    × (l.place ≤ max l.range.from l.range.to)

abbrev pub decreases-loop-place : goal.decreases-loop-place
decreases-loop-place l = l.range.to - l.place
