use Rattle.std.proofs.Common.{◌≡◌, ◌∙◌, ◌<◌, ◌≤◌, ◌-◌, ap, length, get_or, arith}
use Rattle.std.proofs.lemmas.Grind.{common_steps}
use Rattle.std.proofs.lemmas.List.{get_or_default}
use Rattle.logic_graph.specs.Noting.{note_span, note_in}
use Rattle.logic_graph.proofs.NoteLemmas.{span_skips}
use Rattle.logic_graph.proofs.noted.note_range.Goals as goal

pub runs-preserved : goal.runs-preserved
runs-preserved c =
    let of_word = c.args.writers.now.of_word.items in
    let run_end = c.args.writers.now.run_end.items in
    let readers = c.runs.noted.readers.items in
    let reader = c.args.reader in
    let w = c.runs.w in
    let end = c.min-end.result in
    let less : end ≤ length of_word = grind (arith, common_steps, c.min-end.ensures) in
    let inside : w < length of_word = let more = c.runs-test.true in omega arith in
    let len : length run_end ≡ length of_word = c.requires.runs.len in
    let there : w < length run_end = omega arith in
    let next : c.index-in-runs.result.now ≡ get_or run_end w 0 = c.index-in-runs.ensures ∙ get_or_default run_end w c.index-in-runs.result.now 0 there in
    let writer : c.index.result.now ≡ get_or of_word w 0 = c.index.ensures ∙ get_or_default of_word w c.index.result.now 0 inside in
    let noted : c.note.new.noted.readers.items ≡ note_in reader readers (get_or of_word w 0) = c.in_ok-note.ensures.readers ∙ ap (note_in reader readers) writer in
    record {
      readers =
          (λ i. note_span of_word reader (next i) (end - next i) (noted i))
          ∙ span_skips of_word reader w (get_or run_end w 0) end readers (c.requires.runs.runs w inside) c.runs-test.true
          ∙ c.runs.invariant.readers;
      counted = c.in_ok-note.ensures.counted;
    }
