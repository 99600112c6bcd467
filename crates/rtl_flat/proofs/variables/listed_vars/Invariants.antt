use Rattle.std.proofs.Common.{◌≡◌, ◌++◌, length, map}
use Rattle.sv_expr.specs.Environment.{environment}
use Rattle.elab_types.specs.Port.{port_shape}
use Rattle.rtl_flat.specs.Laid.{held_typed}
use Rattle.rtl_flat.specs.PortVars.{further, listed}
use Rattle.rtl_flat.proofs.variables.listed_vars.Given as goal

abbrev pub invariant-loop-rest : goal.invariant-loop-rest
invariant-loop-rest l = map (held_typed 0) l.all.items ++ further (environment l.view) (port_shape l.last) l.rest ≡ listed (environment l.view) l.list

abbrev pub decreases-loop-rest : goal.decreases-loop-rest
decreases-loop-rest l = length l.rest
