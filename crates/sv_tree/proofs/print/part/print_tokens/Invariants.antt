use Rattle.std.proofs.Common.{◌∷◌}
use Rattle.sv_tree.specs.TreeRead.{print_each}
use Rattle.sv_tree.proofs.Printed.{Prints}
use Rattle.sv_tree.proofs.print.part.print_tokens.Given as goal

abbrev pub invariant-loop-token : goal.invariant-loop-token
invariant-loop-token l = Prints (print_each (λ t r. t ∷ r)) l.initial.out l.tokens l.token-index l.out
