use Rattle.std.proofs.Common.{map}
use Rattle.sv_walk.specs.Events.{select_part, step_part, choice_part, each, each_after_operator}
use Rattle.sv_walk.proofs.Walking.{TellsFirst}
use Rattle.sv_walk.proofs.expression.+walk.Given as goal

abbrev pub invariant-visit_choices-loop-choice : goal.invariant-visit_choices-loop-choice
invariant-visit_choices-loop-choice g l = TellsFirst g.V.Visit.told (λ xs. each (map (choice_part l.names) xs) l.constant) l.initial.visitor l.choices l.choice-index l.visitor

abbrev pub invariant-visit_operands-loop-step : goal.invariant-visit_operands-loop-step
invariant-visit_operands-loop-step g l = TellsFirst g.V.Visit.told (λ xs. each_after_operator (map (step_part l.names) xs) l.constant) l.initial.visitor l.more l.step-index l.visitor

abbrev pub invariant-visit_parts-loop-step : goal.invariant-visit_parts-loop-step
invariant-visit_parts-loop-step g l = TellsFirst g.V.Visit.told (λ xs. each (map (step_part l.names) xs) l.constant) l.initial.visitor l.more l.step-index l.visitor

abbrev pub invariant-visit_selects-loop-select : goal.invariant-visit_selects-loop-select
invariant-visit_selects-loop-select g l = TellsFirst g.V.Visit.told (λ xs. each (map (select_part l.names) xs) l.constant) l.initial.visitor l.selects l.select-index l.visitor
