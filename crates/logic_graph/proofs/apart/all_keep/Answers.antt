use Rattle.std.proofs.Common.{◌≡◌, ◌∙◌, true, false, List, sym, subst, refl, arith}
use Rattle.logic_graph.specs.declared.ranges.WordRange.{WordRange}
use Rattle.logic_graph.specs.Noting.{Keeps}
use Rattle.logic_graph.proofs.ApartLemmas.{all_keep_more}
use Rattle.logic_graph.proofs.apart.all_keep.Goals as goal

pub returns-then-not-keeps_ranges : goal.returns-then-not-keeps_ranges
returns-then-not-keeps_ranges c = (
  λ t. absurd (let e : false ≡ true = t in cc),
  λ all. sym c.if-not-keeps_ranges.true ∙ c.keeps_ranges.ensures.1
      (subst (λ (rs : List WordRange). Keeps c.args.of_word.now c.loop-i.i rs) (sym c.as_slice.ensures) (all c.loop-i.i c.index-procs-i.result c.loop-i-test.true)),
)

pub loop-i-preserved : goal.loop-i-preserved
loop-i-preserved c =
    all_keep_more c.args.of_word.now c.args.procs.now c.loop-i.i c.index-procs-i.result c.loop-i-test.true c.loop-i.invariant
    (subst (λ (rs : List WordRange). Keeps c.args.of_word.now c.loop-i.i rs) c.as_slice.ensures (c.keeps_ranges.ensures.0 c.if-not-keeps_ranges.false))

pub returns : goal.returns
returns c = (λ _ k d less. c.loop-i.invariant k d (let done = c.loop-i-test.false in omega arith), λ _. refl)
