use Rattle.std.proofs.Common.{take}
use Rattle.logic_graph.specs.Noting.{Keeps}
use Rattle.logic_graph.proofs.apart.keeps_ranges.Given as goal

abbrev pub invariant-loop-r : goal.invariant-loop-r
invariant-loop-r l = Keeps l.of_word l.writer (take l.r-index l.ranges)
