use Rattle.std.proofs.Common.{◌≡◌, take}
use Rattle.plan_types.specs.Machine.{opening_words}
use Rattle.run_tables.proofs.opening.opening_words.Given as goal

abbrev pub invariant-loop-word : goal.invariant-loop-word
invariant-loop-word l = l.out.items ≡ opening_words l.design.vars (take l.word-index l.layout.words.items)
