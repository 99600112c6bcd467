use Rattle.std.proofs.Common.{◌≡◌, take}
use Rattle.sv_expr.specs.Environment.{environment}
use Rattle.sv_expr.specs.Target.{targets_joined}
use Rattle.sv_expr.proofs.target.+target.Given as goal

abbrev pub invariant-targets_typed-loop-step : goal.invariant-targets_typed-loop-step
invariant-targets_typed-loop-step l = l.so_far ≡ targets_joined (environment l.scope) l.fn.first (take l.step-index l.more)
