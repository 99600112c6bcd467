use Rattle.std.proofs.Common.{◌≤◌, List, subst, arith}
use Rattle.std.proofs.lemmas.Grind.{common_steps}
use Rattle.std.proofs.lemmas.List.{take_all}
use Rattle.logic_graph.specs.declared.ranges.WordRange.{WordRange}
use Rattle.logic_graph.specs.declared.ranges.Touched.{Touched}
use Rattle.logic_graph.specs.Noting.{EndsWithin, AllEndWithin}
use Rattle.logic_graph.proofs.WriterLemmas.{ends_weaker, all_end_more}
use Rattle.logic_graph.proofs.writers.words_written.Goals as goal

pub loop-p-preserved : goal.loop-p-preserved
loop-p-preserved c =
    let p = c.p-item.result in
    let words = c.max-words.result in
    let kept : c.loop-p.words ≤ words = grind (arith, common_steps, c.max-words.ensures) in
    let last : c.last_end.result ≤ words = grind (arith, common_steps, c.max-words.ensures) in
    let here : EndsWithin words p.writes = ends_weaker c.last_end.result words p.writes (subst (λ (rs : List WordRange). EndsWithin c.last_end.result rs) c.as_slice.ensures c.last_end.ensures) last in
    all_end_more c.args.procs.now c.loop-p.p-index c.loop-p.words words p c.loop-p-test.true c.loop-p.invariant kept (subst (λ (q : Touched). EndsWithin words q.writes) c.p-item.is here)

pub returns : goal.returns
returns c = subst (λ (ps : List Touched). AllEndWithin c.loop-p.words ps) (take_all c.loop-p.p-index c.args.procs.now c.loop-p-test.false) c.loop-p.invariant
