use Rattle.std.proofs.Common.{◌≡◌, drop}
use Rattle.sv_walk.specs.Targets.{step_targets}
use Rattle.sv_walk.proofs.target.+target.Given as goal

abbrev pub invariant-are_targets-loop-step : goal.invariant-are_targets-loop-step
invariant-are_targets-loop-step l = step_targets (drop l.step-index l.more) ≡ step_targets l.more
