use Rattle.std.proofs.Common.{◌≡◌, ◌++◌, ◌+◌, ◌*◌, ◌^◌, ◌≤◌, length}
use Rattle.rtl_pieces.specs.Cover.{places_of}
use Rattle.rtl_pieces.proofs.cover.word_places.Given as goal

abbrev pub invariant-loop-rest : goal.invariant-loop-rest
invariant-loop-rest l =
    (l.places.items ++ places_of l.before l.rest ≡ places_of 0 l.layout.words.items)
    × (length l.places.items + length l.rest ≡ length l.layout.words.items)
    × (l.before ≤ 2 ^ 32 * length l.places.items)

abbrev pub decreases-loop-rest : goal.decreases-loop-rest
decreases-loop-rest l = length l.rest
