use Rattle.std.proofs.Common.{◌≡◌, ◌≤◌, ◌++◌, drop, length}
use Rattle.vs_base.specs.declared.limits.TheConstants.{WORDS}
use Rattle.rtl_pieces.specs.Words.{shadows_of}
use Rattle.rtl_pieces.proofs.layout.add_shadows.Given as goal

abbrev pub invariant-loop-number : goal.invariant-loop-number
invariant-loop-number l =
    (l.words.items ++ shadows_of l.line l.procs (drop l.number l.initial.words.items) ≡ l.initial.words.items ++ shadows_of l.line l.procs (drop 1 l.initial.words.items))
    × (length l.words.items ≤ WORDS)
    × (length l.initial.words.items ≤ length l.words.items)
