use Rattle.std.proofs.Common.{◌∙◌, ap, take}
use Rattle.std.specs.List.{sum_by}
use Rattle.proc_cost.specs.Costs.{onto, choice_cost, expr_cost}
use Rattle.proc_cost.specs.CostLaws.{onto_next}
use Rattle.proc_cost.proofs.expr.+cost.Goals as goal

pub add_choices-loop-choice-preserved : goal.add_choices-loop-choice-preserved
add_choices-loop-choice-preserved m c =
    c.add_choice-cost.ensures
    ∙ ap (λ n. onto n (choice_cost c.choice-item.result)) c.loop-choice.invariant
    ∙ ap (λ x. onto (onto c.args.so_far (sum_by choice_cost (take c.loop-choice.choice-index c.args.choices.now))) (choice_cost x)) c.choice-item.is
    ∙ onto_next choice_cost c.args.so_far c.args.choices.now c.loop-choice.choice-index _ c.loop-choice-test.true

pub add_exprs-loop-expr-preserved : goal.add_exprs-loop-expr-preserved
add_exprs-loop-expr-preserved m c =
    c.add_expr-cost.ensures
    ∙ ap (λ n. onto n (expr_cost c.expr-item.result)) c.loop-expr.invariant
    ∙ ap (λ x. onto (onto c.args.so_far (sum_by expr_cost (take c.loop-expr.expr-index c.args.exprs.now))) (expr_cost x)) c.expr-item.is
    ∙ onto_next expr_cost c.args.so_far c.args.exprs.now c.loop-expr.expr-index _ c.loop-expr-test.true
