use Rattle.std.proofs.Common.{map}
use Rattle.std.specs.List.{flat_map}
use Rattle.sv_walk.specs.Targets.{lvalue_step_events}
use Rattle.sv_walk.proofs.Walking.{TellsFirst}
use Rattle.sv_walk.proofs.target.+lvalue.Given as goal

abbrev pub invariant-visit_lvalue_steps-loop-step : goal.invariant-visit_lvalue_steps-loop-step
invariant-visit_lvalue_steps-loop-step g l = TellsFirst g.V.Visit.told (λ xs. flat_map (λ part. part) (map (lvalue_step_events l.names) xs)) l.initial.visitor l.more l.step-index l.visitor
