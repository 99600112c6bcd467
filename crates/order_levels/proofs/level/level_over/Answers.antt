use Rattle.std.proofs.Common.{◌≡◌, ◌+◌, ◌∙◌, max, sym, ap, refl, get_or, arith}
use Rattle.std.proofs.lemmas.Grind.{common_steps}
use Rattle.order_levels.proofs.LevelLemmas.{level_over_more}
use Rattle.order_levels.proofs.level.level_over.Goals as goal

pub loop-m-preserved : goal.loop-m-preserved
loop-m-preserved c =
    let levels = c.args.levels.now in
    let sources = c.args.sources.now in
    let i = c.loop-m.m-index in
    let m = get_or sources i 0 in
    let greatest : c.max-most.result ≡ max c.loop-m.most (get_or levels m 0 + 1) = grind (arith, common_steps, c.max-most.ensures) in (
      greatest ∙ ap (λ k. max k (get_or levels m 0 + 1)) c.loop-m.invariant.0 ∙ sym (level_over_more levels sources i m c.loop-m-test.true refl),
      λ top bound. let here = bound m in let so_far = c.loop-m.invariant.1 top bound in omega arith,
    )
