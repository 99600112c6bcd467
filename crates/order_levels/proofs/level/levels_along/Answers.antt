use Rattle.std.proofs.Common.{◌≡◌, ◌≤◌, ◌<◌, ◌∙◌, ℕ, List, [], set, sym, ap, subst, length, get_or, replicate, arith}
use Rattle.std.proofs.lemmas.List.{length-set, get_or_read, get_or_default}
use Rattle.order_levels.specs.Sets.{level_over}
use Rattle.order_levels.proofs.LevelLemmas.{levels_along_more, small_set}
use Rattle.order_levels.proofs.EdgeLemmas.{below_at}
use Rattle.order_levels.proofs.level.levels_along.Goals as goal

pub loop-n-preserved : goal.loop-n-preserved
loop-n-preserved c =
    let sources = c.args.sources.now in
    let order = c.args.order.now in
    let levels = c.loop-n.levels.items in
    let level = c.level_over-level.result in
    let i = c.loop-n.n-index in
    let n = get_or order i 0 in
    let start : List ℕ = replicate (length sources) 0 in
    let place : n < length sources = below_at (length sources) order i n c.requires.order c.loop-n-test.true (get_or_default order i 0 n c.loop-n-test.true) in
    let within : n < length levels = omega (arith, c.loop-n.invariant.len) in
    let list : c.as_slice-in-loop-n.result.now ≡ get_or sources n [] = c.as_slice-in-loop-n.ensures ∙ get_or_read sources n c.index-sources-n.result place c.index-sources-n.is [] in
    let is : level ≡ level_over levels (get_or sources n []) = c.level_over-level.ensures.level ∙ (λ j. level_over (c.as_slice.ensures.value j) (list j)) in
    record {
      len = length-set levels n level ∙ c.loop-n.invariant.len;
      so_far =
          ap (set levels n) is ∙ ap (λ (ls : List ℕ). set ls n (level_over ls (get_or sources n []))) c.loop-n.invariant.so_far
          ∙ sym (levels_along_more sources start order i c.loop-n-test.true);
      small = small_set levels n level i within c.loop-n.invariant.small (c.level_over-level.ensures.small i (λ m. subst (λ (ls : List ℕ). get_or ls m 0 ≤ i) (sym c.as_slice.ensures.value) (c.loop-n.invariant.small m)));
    }
