use Rattle.std.proofs.Common.{◌≡◌, ◌∙◌, sym, ap, cond, get_or}
use Rattle.logic_graph.specs.declared.ranges.Touched.{Touched}
use Rattle.logic_graph.specs.Noting.{has_word_of}
use Rattle.logic_graph.proofs.WriterLemmas.{writer_more}
use Rattle.logic_graph.proofs.writers.mark_procs.Goals as goal

pub loop-i-preserved : goal.loop-i-preserved
loop-i-preserved c = λ k.
    let p = c.index-procs-i.result in
    let ranges : c.as_slice.result.now ≡ p.writes = c.as_slice.ensures ∙ ap (λ (q : Touched). q.writes) (sym c.index-procs-i.is) in
    c.mark_ranges.ensures k ∙ (λ j. cond (has_word_of k (ranges j)) c.loop-i.i (c.loop-i.invariant k j))
    ∙ sym (writer_more (get_or c.args.of_word.now k 0) c.args.procs.now c.loop-i.i p k c.loop-i-test.true c.index-procs-i.is)
