use Rattle.std.proofs.Common.{◌∙◌, ap}
use Rattle.order_levels.specs.Sets.{all_below}
use Rattle.order_levels.proofs.StallLemmas.{all_run_below}
use Rattle.order_levels.proofs.order.settle.Goals as goal

pub stalled_loop-requires-clause-ran : goal.stalled_loop-requires-clause-ran
stalled_loop-requires-clause-ran c =
    let nodes = c.nodes-nodes.result in
    ap (all_below nodes) (c.as_slice.ensures.value ∙ c.in-Ok.ensures) ∙ all_run_below nodes c.as_slice-edges.result.now
