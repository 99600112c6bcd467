use Rattle.std.proofs.Common.{◌≡◌, length}
use Rattle.sv_elab.specs.Top.{name_at}
use Rattle.sv_elab.proofs.design.module_of.Given as goal

abbrev pub invariant-loop-rest : goal.invariant-loop-rest
invariant-loop-rest l = name_at l.rest l.left ≡ name_at l.tree.descriptions l.number

abbrev pub decreases-loop-rest : goal.decreases-loop-rest
decreases-loop-rest l = length l.rest
