use Rattle.std.proofs.Common.{take}
use Rattle.logic_graph.specs.Noting.{EndsWithin}
use Rattle.logic_graph.proofs.writers.last_end.Given as goal

abbrev pub invariant-loop-r : goal.invariant-loop-r
invariant-loop-r l = EndsWithin l.end (take l.r-index l.ranges)
