use Rattle.std.proofs.Common.{◌≡◌, take}
use Rattle.logic_graph.specs.Noting.{note_all_in, Counted}
use Rattle.logic_graph.proofs.noted.note_ranges.Given as goal

abbrev pub invariant-loop-r : goal.invariant-loop-r
invariant-loop-r l = record {
  readers : l.noted.readers.items ≡ note_all_in l.writers.of_word.items l.reader l.fn.noted.readers.items (take l.r-index l.ranges);
  counted : Counted l.noted.count l.noted.readers.items;
}
