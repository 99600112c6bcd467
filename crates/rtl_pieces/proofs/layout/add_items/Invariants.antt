use Rattle.std.proofs.Common.{◌≡◌, ◌≤◌, ◌++◌, ◌+◌, length, true}
use Rattle.std.specs.List.{list_all}
use Rattle.vs_base.specs.declared.limits.TheConstants.{WORDS}
use Rattle.rtl_pieces.specs.Near.{is_near}
use Rattle.rtl_pieces.specs.Words.{noted, words_from}
use Rattle.rtl_pieces.proofs.layout.add_items.Given as goal

abbrev pub invariant-loop-rest : goal.invariant-loop-rest
invariant-loop-rest l =
    (l.words.items ++ words_from (noted l.writers) l.line.vars l.number l.rest ≡ l.initial.words.items ++ words_from (noted l.writers) l.line.vars 0 l.line.items)
    × (length l.words.items ≤ WORDS)
    × (l.number + length l.rest ≡ length l.line.items)
    × (list_all is_near l.rest ≡ true)

abbrev pub decreases-loop-rest : goal.decreases-loop-rest
decreases-loop-rest l = length l.rest
