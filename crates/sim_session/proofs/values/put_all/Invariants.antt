use Rattle.std.proofs.Common.{◌≡◌, ◌+◌, length, drop, true}
use Rattle.std.specs.List.{list_all}
use Rattle.sim_session.specs.Values.{put_words, is_short}
use Rattle.sim_session.proofs.values.put_all.Given as goal

abbrev pub invariant-words : goal.invariant-words
invariant-words g l = record {
  put : put_words l.rest (drop l.k (g.R.Runner.machine l.runner).outside.words) l.values ≡ put_words l.built.layout.words.items (g.R.Runner.machine l.runner).outside.words l.fn.values;
  short : list_all is_short l.rest ≡ true;
  count : l.k + length l.rest ≡ length l.built.layout.words.items;
}

abbrev pub decreases-words : goal.decreases-words
decreases-words g l = length l.rest
