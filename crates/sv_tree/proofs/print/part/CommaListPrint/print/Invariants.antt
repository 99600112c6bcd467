use Rattle.std.proofs.Common.{◌∷◌}
use Rattle.sv_tree.specs.TreeRead.{print_each}
use Rattle.sv_tree.proofs.Printed.{Prints}
use Rattle.sv_tree.proofs.print.part.CommaListPrint.print.Given as goal

abbrev pub invariant-loop-joined : goal.invariant-loop-joined
invariant-loop-joined g l = Prints (λ js. print_each (λ j r. j.mark ∷ g.T.Print.printed j.item r) js) l.initial.out l.joined-items l.joined-index l.out
