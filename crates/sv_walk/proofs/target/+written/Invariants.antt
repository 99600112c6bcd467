use Rattle.std.proofs.Common.{map}
use Rattle.sv_walk.specs.Events.{step_part, each_written}
use Rattle.sv_walk.proofs.Walking.{TellsFirst}
use Rattle.sv_walk.proofs.target.+written.Given as goal

abbrev pub invariant-visit_targets-loop-step : goal.invariant-visit_targets-loop-step
invariant-visit_targets-loop-step g l = TellsFirst g.V.Visit.told (λ xs. each_written (map (step_part l.names) xs)) l.initial.visitor l.more l.step-index l.visitor
