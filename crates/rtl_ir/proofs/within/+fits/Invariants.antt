use Rattle.std.proofs.Common.{◌≡◌, take, true}
use Rattle.std.specs.List.{list_all}
use Rattle.rtl_ir.specs.Within.{expr_fits, choice_fits}
use Rattle.rtl_ir.proofs.within.+fits.Given as goal

abbrev pub invariant-choices_fit-loop-choice : goal.invariant-choices_fit-loop-choice
invariant-choices_fit-loop-choice l = list_all (choice_fits l.counts) (take l.choice-index l.choices) ≡ true

abbrev pub invariant-exprs_fit-loop-expr : goal.invariant-exprs_fit-loop-expr
invariant-exprs_fit-loop-expr l = list_all (expr_fits l.counts) (take l.expr-index l.exprs) ≡ true
