use Rattle.std.proofs.Common.{◌≡◌, ◌-◌}
use Rattle.logic_graph.specs.Noting.{note_span, note_range_in, Counted}
use Rattle.logic_graph.proofs.noted.note_range.Given as goal

abbrev pub invariant-runs : goal.invariant-runs
invariant-runs l = record {
  readers : note_span l.writers.of_word.items l.reader l.w (l.end - l.w) l.noted.readers.items ≡ note_range_in l.writers.of_word.items l.reader l.fn.noted.readers.items l.fn.range;
  counted : Counted l.noted.count l.noted.readers.items;
}

abbrev pub decreases-runs : goal.decreases-runs
decreases-runs l = l.end - l.w
