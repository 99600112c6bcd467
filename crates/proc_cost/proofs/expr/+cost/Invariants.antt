use Rattle.std.proofs.Common.{◌≡◌, take}
use Rattle.std.specs.List.{sum_by}
use Rattle.proc_cost.specs.Costs.{onto, choice_cost, expr_cost}
use Rattle.proc_cost.proofs.expr.+cost.Given as goal

abbrev pub invariant-add_choices-loop-choice : goal.invariant-add_choices-loop-choice
invariant-add_choices-loop-choice l = l.cost ≡ onto l.so_far (sum_by choice_cost (take l.choice-index l.choices))

abbrev pub invariant-add_exprs-loop-expr : goal.invariant-add_exprs-loop-expr
invariant-add_exprs-loop-expr l = l.cost ≡ onto l.so_far (sum_by expr_cost (take l.expr-index l.exprs))
