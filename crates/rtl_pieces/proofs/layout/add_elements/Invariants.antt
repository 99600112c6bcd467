use Rattle.std.proofs.Common.{◌≡◌, ◌≤◌, ◌++◌, ◌-◌, length}
use Rattle.vs_base.specs.declared.limits.TheConstants.{WORDS}
use Rattle.rtl_pieces.specs.Words.{element_words}
use Rattle.rtl_pieces.proofs.layout.add_elements.Given as goal

abbrev pub invariant-loop-element : goal.invariant-loop-element
invariant-loop-element l =
    (l.words.items ++ element_words l.lowest.mem l.lowest.item l.pieces l.element (l.elements - l.element) ≡ l.initial.words.items ++ element_words l.lowest.mem l.lowest.item l.pieces 0 l.elements)
    × (length l.words.items ≤ WORDS)
