use Rattle.std.proofs.Common.{◌≡◌, ◌+◌, ◌*◌, ◌^◌, ◌≤◌, ◌<◌, ◌∙◌, ℕ, List, [], set, sym, ap, subst, length, get_or, replicate, arith}
use Rattle.std.proofs.lemmas.List.{length-set, get_or_read, get_or_default}
use Rattle.std.proofs.lemmas.Grind.{common_steps}
use Rattle.order_levels.specs.Sets.{greatest_at, costs_along}
use Rattle.order_levels.proofs.PathCostLemmas.{costs_along_more, small_set}
use Rattle.order_levels.proofs.EdgeLemmas.{below_at}
use Rattle.order_levels.proofs.path_cost.costs_along.Goals as goal

pub loop-n-preserved : goal.loop-n-preserved
loop-n-preserved c =
    let costs = c.args.costs.now in
    let sources = c.args.sources.now in
    let order = c.args.order.now in
    let paths = c.loop-n.paths.items in
    let over = c.greatest_at-over.result in
    let i = c.loop-n.n-index in
    let n = get_or order i 0 in
    let cost = c.from-cost.result in
    let cost_is : cost ≡ get_or costs n 0 = grind (arith, common_steps, c.from-cost.ensures) in
    let start : List ℕ = replicate (length sources) 0 in
    let place : n < length sources = below_at (length sources) order i n c.requires.order c.loop-n-test.true (get_or_default order i 0 n c.loop-n-test.true) in
    let within : n < length paths = omega (arith, c.loop-n.invariant.len) in
    let list : c.as_slice-in-loop-n.result.now ≡ get_or sources n [] = c.as_slice-in-loop-n.ensures ∙ get_or_read sources n c.index-sources-n.result place c.index-sources-n.is [] in
    let is : over ≡ greatest_at paths (get_or sources n []) = c.greatest_at-over.ensures.greatest ∙ (λ j. greatest_at (c.as_slice.ensures.value j) (list j)) in
    let fits : cost < 2 ^ 64 = omega arith in
    let low = c.greatest_at-over.ensures.small (i * 2 ^ 64) (λ m. subst (λ (ls : List ℕ). get_or ls m 0 ≤ i * 2 ^ 64) (sym c.as_slice.ensures.value) (c.loop-n.invariant.small m)) in
    let most : cost + over ≤ i * 2 ^ 64 + 2 ^ 64 = omega arith in
    let top : i * 2 ^ 64 + 2 ^ 64 ≡ (i + 1) * 2 ^ 64 = omega arith in
    record {
      len = length-set paths n (cost + over) ∙ c.loop-n.invariant.len;
      so_far =
          (λ j. set paths n (cost_is j + is j)) ∙ ap (λ (ls : List ℕ). set ls n (get_or costs n 0 + greatest_at ls (get_or sources n []))) c.loop-n.invariant.so_far
          ∙ sym (costs_along_more costs sources start order i c.loop-n-test.true);
      small = λ m. subst (λ k. get_or (set paths n (cost + over)) m 0 ≤ k) top (small_set paths n (cost + over) (i * 2 ^ 64) (2 ^ 64) within c.loop-n.invariant.small most m);
    }
