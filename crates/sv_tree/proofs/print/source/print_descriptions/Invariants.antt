use Rattle.sv_tree.specs.Tree.{read_description}
use Rattle.sv_tree.specs.TreeRead.{each}
use Rattle.sv_tree.proofs.Printed.{Prints}
use Rattle.sv_tree.proofs.print.source.print_descriptions.Given as goal

abbrev pub invariant-loop-description : goal.invariant-loop-description
invariant-loop-description l = Prints (λ xs. (each read_description xs).print) l.initial.out l.descriptions l.description-index l.out
