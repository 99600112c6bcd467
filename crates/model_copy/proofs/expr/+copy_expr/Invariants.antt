use Rattle.std.proofs.Common.{◌≡◌, take}
use Rattle.model_copy.proofs.expr.+copy_expr.Given as goal

abbrev pub invariant-copy_exprs-loop-expr : goal.invariant-copy_exprs-loop-expr
invariant-copy_exprs-loop-expr l = l.copies ≡ take l.expr-index l.exprs

abbrev pub invariant-copy_choices-loop-choice : goal.invariant-copy_choices-loop-choice
invariant-copy_choices-loop-choice l = l.copies ≡ take l.choice-index l.choices
