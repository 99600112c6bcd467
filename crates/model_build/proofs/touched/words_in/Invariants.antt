use Rattle.std.proofs.Common.{◌≡◌, ℕ, take}
use Rattle.std.specs.List.{list_any}
use Rattle.logic_graph.specs.Reading.{has_word}
use Rattle.model_build.specs.Touching.{is_in}
use Rattle.model_build.proofs.touched.words_in.Given as goal

abbrev pub invariant-loop-range : goal.invariant-loop-range
invariant-loop-range l = (w : ℕ) → list_any (has_word w) l.words ≡ list_any (is_in l.places w) (take l.range-index l.ranges)
