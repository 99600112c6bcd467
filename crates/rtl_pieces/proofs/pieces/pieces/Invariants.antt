use Rattle.std.proofs.Common.{◌≡◌, ◌++◌, ◌-◌, ◌<◌}
use Rattle.rtl_pieces.specs.Words.{is_cut, noted, pieces_from, pieces_of}
use Rattle.rtl_pieces.proofs.pieces.pieces.Given as goal

abbrev pub invariant-loop-bit : goal.invariant-loop-bit
invariant-loop-bit l =
    (l.pieces.items ++ pieces_from (λ bit. is_cut (noted l.writers) l.item bit 0 l.item.elements) l.from (l.bit - l.from) (l.item.width - l.bit) ≡ pieces_of (noted l.writers) l.item)
    × (l.from < l.bit)
