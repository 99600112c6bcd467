use Rattle.std.proofs.Common.{◌≡◌, ◌-◌, ◌||◌, ◌&&◌, ℕ}
use Rattle.std.specs.Prelude.{nat_lt}
use Rattle.rtl_pieces.specs.Words.{noted, marked, is_cut}
use Rattle.rtl_pieces.proofs.pieces.mark_elements.Given as goal

abbrev pub invariant-loop-element : goal.invariant-loop-element
invariant-loop-element l =
    (b : ℕ) → (marked l.marks b || (nat_lt b l.item.width && is_cut (noted l.writers) l.item b l.element (l.item.elements - l.element)))
    ≡ (marked l.initial.marks b || (nat_lt b l.item.width && is_cut (noted l.writers) l.item b 0 l.item.elements))
