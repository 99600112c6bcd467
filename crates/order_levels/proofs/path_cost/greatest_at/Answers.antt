use Rattle.std.proofs.Common.{◌≡◌, ◌+◌, ◌∙◌, max, sym, ap, refl, get_or, arith}
use Rattle.std.proofs.lemmas.Grind.{common_steps}
use Rattle.order_levels.proofs.PathCostLemmas.{greatest_more}
use Rattle.order_levels.proofs.path_cost.greatest_at.Goals as goal

pub loop-m-preserved : goal.loop-m-preserved
loop-m-preserved c =
    let paths = c.args.paths.now in
    let sources = c.args.sources.now in
    let i = c.loop-m.m-index in
    let m = get_or sources i 0 in
    let greatest : c.max-most.result ≡ max c.loop-m.most (get_or paths m 0) = grind (arith, common_steps, c.max-most.ensures) in (
      greatest ∙ ap (λ k. max k (get_or paths m 0)) c.loop-m.invariant.0 ∙ sym (greatest_more paths sources i m c.loop-m-test.true refl),
      λ top bound. let here = bound m in let so_far = c.loop-m.invariant.1 top bound in omega arith,
    )
