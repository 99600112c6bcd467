use Rattle.std.proofs.Common.{◌≡◌, ◌++◌, take}
use Rattle.std.specs.List.{flat_map}
use Rattle.proc_calls.specs.Calls.{choice_calls, expr_calls}
use Rattle.proc_calls.proofs.expr.+calls.Given as goal

abbrev pub invariant-add_choices-loop-choice : goal.invariant-add_choices-loop-choice
invariant-add_choices-loop-choice l = l.calls.items ≡ l.initial.calls.items ++ flat_map choice_calls (take l.choice-index l.choices)

abbrev pub invariant-add_exprs-loop-expr : goal.invariant-add_exprs-loop-expr
invariant-add_exprs-loop-expr l = l.calls.items ≡ l.initial.calls.items ++ flat_map expr_calls (take l.expr-index l.exprs)
