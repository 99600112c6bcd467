use Rattle.std.proofs.Common.{◌≡◌, ◌≤◌, ◌++◌, map, length}
use Rattle.vs_base.specs.declared.limits.TheConstants.{WORDS}
use Rattle.rtl_pieces.specs.Words.{word_of}
use Rattle.rtl_pieces.proofs.layout.add_element.Given as goal

abbrev pub invariant-loop-rest : goal.invariant-loop-rest
invariant-loop-rest l =
    (l.words.items ++ map (word_of l.lowest.mem l.lowest.item l.lowest.element) l.rest ≡ l.initial.words.items ++ map (word_of l.lowest.mem l.lowest.item l.lowest.element) l.pieces)
    × (length l.words.items ≤ WORDS)

abbrev pub decreases-loop-rest : goal.decreases-loop-rest
decreases-loop-rest l = length l.rest
