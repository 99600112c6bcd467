use Rattle.std.proofs.Common.{refl, get_or, arith}
use Rattle.order_levels.proofs.EdgeLemmas.{counted_next}
use Rattle.order_levels.proofs.running.release.Goals as goal

pub release_one-requires-clause-counted : goal.release_one-requires-clause-counted
release_one-requires-clause-counted c =
    let targets = c.args.targets.now in
    let m = get_or targets c.loop-t.t-index 0 in
    let next = counted_next targets c.loop-t.t-index m c.loop-t-test.true refl in
    let all = c.requires.counted m in
    let so_far = c.loop-t.invariant.counts m in
    omega arith
