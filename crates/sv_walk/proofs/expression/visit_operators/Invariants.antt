use Rattle.sv_walk.specs.Events.{operators}
use Rattle.sv_walk.proofs.Walking.{TellsFirst}
use Rattle.sv_walk.proofs.expression.visit_operators.Given as goal

abbrev pub invariant-loop : goal.invariant-loop
invariant-loop g l = TellsFirst g.V.Visit.told operators l.initial.visitor l.operators l.index l.visitor
