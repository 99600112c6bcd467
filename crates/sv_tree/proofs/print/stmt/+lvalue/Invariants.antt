use Rattle.std.proofs.Common.{map}
use Rattle.sv_tree.specs.TreeRead.{all_of}
use Rattle.sv_tree.specs.TreeStmt.{lvalue_step_read}
use Rattle.sv_tree.proofs.Printed.{Prints}
use Rattle.sv_tree.proofs.print.stmt.+lvalue.Given as goal

abbrev pub invariant-print_lvalue_steps-loop-step : goal.invariant-print_lvalue_steps-loop-step
invariant-print_lvalue_steps-loop-step l = Prints (λ xs. (all_of (map lvalue_step_read xs)).print) l.initial.out l.steps l.step-index l.out
