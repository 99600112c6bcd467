use Rattle.std.proofs.Common.{◌≤◌, List, get_or, subst, arith}
use Rattle.std.proofs.lemmas.Grind.{common_steps}
use Rattle.std.proofs.lemmas.List.{take_all}
use Rattle.logic_graph.specs.declared.ranges.WordRange.{WordRange}
use Rattle.logic_graph.specs.Noting.{EndsWithin}
use Rattle.logic_graph.proofs.WriterLemmas.{ends_more}
use Rattle.logic_graph.proofs.writers.last_end.Goals as goal

pub loop-r-preserved : goal.loop-r-preserved
loop-r-preserved c =
    let d : WordRange = record { first = 0; end = 0 } in
    let r : WordRange = get_or c.args.ranges.now c.loop-r.r-index d in
    let kept : c.loop-r.end ≤ c.max-end.result = grind (arith, common_steps, c.max-end.ensures) in
    let here : r.end ≤ c.max-end.result = grind (arith, common_steps, c.max-end.ensures) in
    ends_more c.args.ranges.now c.loop-r.r-index c.loop-r.end c.max-end.result d c.loop-r-test.true c.loop-r.invariant kept here

pub returns : goal.returns
returns c = subst (λ (rs : List WordRange). EndsWithin c.loop-r.end rs) (take_all c.loop-r.r-index c.args.ranges.now c.loop-r-test.false) c.loop-r.invariant
