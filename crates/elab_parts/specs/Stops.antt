-- The fault that ends the walk, if there is one.
use Rattle.std.specs.Prelude.{Option, Some, None, Result, Ok, Err}
use Rattle.sv_expr.specs.declared.fault.WalkFault.{WalkFault}
use Rattle.sv_expr.specs.declared.fault.WalkFault.TheVariants as fault
use Rattle.elab_parts.specs.declared.stop.Stop.{Stop}
use Rattle.elab_parts.specs.declared.stop.Stop.TheVariants as stop

abbrev pub stop_in : {A : Type 0} → Result A Stop → Option Stop
stop_in (Ok x) = None
stop_in (Err s) = Some s

-- the first of two faults
infixr 20 ◌or◌
abbrev pub ◌or◌ : Option Stop → Option Stop → Option Stop
None or b = b
(Some s) or b = Some s

-- a fault of an expression ends the walk with the same place
abbrev pub of_walk : WalkFault → Stop
of_walk (fault.TooWide at) = stop.TooWide at
of_walk (fault.BadRange at) = stop.BadRange at
