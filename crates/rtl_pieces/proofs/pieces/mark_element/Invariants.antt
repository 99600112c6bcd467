use Rattle.std.proofs.Common.{◌≡◌, ◌≤◌, ◌||◌, ◌&&◌, ℕ}
use Rattle.std.specs.Prelude.{nat_lt}
use Rattle.rtl_pieces.specs.Words.{noted, marked, same_below, begins}
use Rattle.rtl_pieces.proofs.pieces.mark_element.Given as goal

abbrev pub invariant-loop-bit : goal.invariant-loop-bit
invariant-loop-bit l =
    ((b : ℕ) → marked l.marks b ≡ marked l.initial.marks b || (nat_lt b l.bit && begins (noted l.writers) l.first b))
    × (l.same ≡ same_below (noted l.writers) l.first l.bit)
    × (l.same ≤ l.bit)
