use Rattle.std.proofs.Common.{◌∙◌, ap, take}
use Rattle.std.specs.List.{sum_by}
use Rattle.proc_cost.specs.Costs.{onto, target_cost}
use Rattle.proc_cost.specs.CostLaws.{onto_next}
use Rattle.proc_cost.proofs.stmt.add_targets.Goals as goal

pub loop-target-preserved : goal.loop-target-preserved
loop-target-preserved c =
    c.add_target-cost.ensures
    ∙ ap (λ n. onto n (target_cost c.target-item.result)) c.loop-target.invariant
    ∙ ap (λ x. onto (onto c.args.so_far (sum_by target_cost (take c.loop-target.target-index c.args.targets.now))) (target_cost x)) c.target-item.is
    ∙ onto_next target_cost c.args.so_far c.args.targets.now c.loop-target.target-index _ c.loop-target-test.true
