use Rattle.std.proofs.Common.{map}
use Rattle.sv_tree.specs.TreeRead.{all_of}
use Rattle.sv_tree.specs.TreeExpr.{operators, step_read, select_read, choice_read}
use Rattle.sv_tree.proofs.Printed.{Prints}
use Rattle.sv_tree.proofs.print.expr.+expr.Given as goal

abbrev pub invariant-print_steps-loop-step : goal.invariant-print_steps-loop-step
invariant-print_steps-loop-step l = Prints (λ xs. (operators (map step_read xs)).print) l.initial.out l.steps l.step-index l.out

abbrev pub invariant-print_selects-loop-select : goal.invariant-print_selects-loop-select
invariant-print_selects-loop-select l = Prints (λ xs. (all_of (map select_read xs)).print) l.initial.out l.selects l.select-index l.out

abbrev pub invariant-print_choices-loop-choice : goal.invariant-print_choices-loop-choice
invariant-print_choices-loop-choice l = Prints (λ xs. (all_of (map choice_read xs)).print) l.initial.out l.choices l.choice-index l.out
