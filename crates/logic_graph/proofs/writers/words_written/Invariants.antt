use Rattle.std.proofs.Common.{take}
use Rattle.logic_graph.specs.Noting.{AllEndWithin}
use Rattle.logic_graph.proofs.writers.words_written.Given as goal

abbrev pub invariant-loop-p : goal.invariant-loop-p
invariant-loop-p l = AllEndWithin l.words (take l.p-index l.procs)
