use Rattle.std.proofs.Common.{◌≡◌, ◌∙◌, true, false, sym}
use Rattle.std.proofs.lemmas.List.Folds.{list_any_at}
use Rattle.logic_graph.specs.declared.ranges.WordRange.{WordRange}
use Rattle.logic_graph.specs.Reading.{has_word}
use Rattle.logic_graph.proofs.ApartLemmas.{keeps_more}
use Rattle.logic_graph.proofs.apart.keeps_ranges.Goals as goal

pub returns-then-not-keeps_range : goal.returns-then-not-keeps_range
returns-then-not-keeps_range c =
    let d : WordRange = record { first = 0; end = 0 } in (
      λ t. absurd (let e : false ≡ true = t in cc),
      λ all. sym c.if-not-keeps_range.true ∙ c.keeps_range.ensures.1 (λ w has. all w (list_any_at (has_word w) c.args.ranges.now c.loop-r.r-index d c.loop-r-test.true has)),
    )

pub loop-r-preserved : goal.loop-r-preserved
loop-r-preserved c =
    let d : WordRange = record { first = 0; end = 0 } in
    keeps_more c.args.of_word.now c.args.writer c.args.ranges.now c.loop-r.r-index d c.loop-r-test.true c.loop-r.invariant (c.keeps_range.ensures.0 c.if-not-keeps_range.false)
