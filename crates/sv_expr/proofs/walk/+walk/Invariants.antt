use Rattle.std.proofs.Common.{◌≡◌, ◌≤◌, take, drop}
use Rattle.sv_expr.specs.Bound.{IsWidth}
use Rattle.sv_expr.specs.Environment.{environment}
use Rattle.sv_expr.specs.Walk.{steps_typed, steps_joined, choices_typed, selects_typed, steps_number, steps_left, steps_hold, Joins, first_chosen}
use Rattle.sv_expr.proofs.walk.+walk.Given as goal

abbrev pub invariant-steps_typed-loop-step : goal.invariant-steps_typed-loop-step
invariant-steps_typed-loop-step l = (l.so_far ≡ steps_typed (environment l.scope) l.class l.fn.first (take l.step-index l.more)) × IsWidth l.so_far.kind.width

abbrev pub invariant-parts_typed-loop-step : goal.invariant-parts_typed-loop-step
invariant-parts_typed-loop-step l = l.so_far ≡ steps_joined (environment l.scope) l.fn.first (take l.step-index l.more)

abbrev pub invariant-choices_typed-loop-choice : goal.invariant-choices_typed-loop-choice
invariant-choices_typed-loop-choice l = (l.so_far ≡ choices_typed (environment l.scope) (take l.choice-index l.choices)) × (l.so_far.kind.width ≤ 128)

abbrev pub invariant-selects_typed-loop-last : goal.invariant-selects_typed-loop-last
invariant-selects_typed-loop-last l = (l.so_far ≡ selects_typed (environment l.scope) l.fn.whole (take l.last-index l.selects)) × IsWidth l.so_far.kind.width

abbrev pub invariant-steps_value-loop-step : goal.invariant-steps_value-loop-step
invariant-steps_value-loop-step l = (l.so_far ≡ steps_number (environment l.scope) l.class l.context l.fn.first (take l.step-index l.more)) × (l.so_far.width ≡ l.context.width)

abbrev pub invariant-steps_left-loop-step : goal.invariant-steps_left-loop-step
invariant-steps_left-loop-step l = (l.so_far ≡ steps_left (environment l.scope) l.fn.left (take l.step-index l.more)) × IsWidth l.so_far.kind.width

abbrev pub invariant-steps_hold-loop-step : goal.invariant-steps_hold-loop-step
invariant-steps_hold-loop-step l = l.so_far ≡ steps_hold (environment l.scope) l.class l.fn.first (take l.step-index l.more)

abbrev pub invariant-parts_value-loop-step : goal.invariant-parts_value-loop-step
invariant-parts_value-loop-step l = Joins (environment l.scope) l.fn.first l.more (take l.step-index l.more) l.so_far

abbrev pub invariant-chosen_value-loop-choice : goal.invariant-chosen_value-loop-choice
invariant-chosen_value-loop-choice l = first_chosen (environment l.scope) l.context (drop l.choice-index l.choices) ≡ first_chosen (environment l.scope) l.context l.choices
