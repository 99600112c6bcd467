use Rattle.std.proofs.Common.{◌∙◌, ap, take}
use Rattle.std.specs.List.{sum_by}
use Rattle.proc_cost.specs.Costs.{onto, label_cost, expr_cost}
use Rattle.proc_cost.specs.CostLaws.{onto_next, onto_onto}
use Rattle.proc_cost.proofs.stmt.add_labels.Goals as goal

pub loop-label-preserved : goal.loop-label-preserved
loop-label-preserved c =
    c.add_expr-cost.ensures
    ∙ ap (λ n. onto n (expr_cost c.label-item.result)) (c.add.ensures ∙ ap (λ n. onto n 1) c.loop-label.invariant)
    ∙ onto_onto (onto c.args.so_far (sum_by label_cost (take c.loop-label.label-index c.args.labels.now))) 1 (expr_cost c.label-item.result)
    ∙ ap (λ x. onto (onto c.args.so_far (sum_by label_cost (take c.loop-label.label-index c.args.labels.now))) (label_cost x)) c.label-item.is
    ∙ onto_next label_cost c.args.so_far c.args.labels.now c.loop-label.label-index _ c.loop-label-test.true
