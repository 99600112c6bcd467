use Rattle.std.proofs.Common.{map, ap}
use Rattle.rtl_flat.specs.Laid.{VarStands, MemStands, typed, held_typed, var_scope, mem_scope}
use Rattle.rtl_flat.proofs.Laying.{none_yet, begins_first, begins_through}
use Rattle.rtl_flat.proofs.variables.laid_down.Goals as goal

pub put_vars-requires : goal.put_vars-requires
put_vars-requires c = none_yet var_scope (VarStands c.args.scopes.now) 0 c.new.result c.new.ensures

pub put_scopes-requires-clause-mems : goal.put_scopes-requires-clause-mems
put_scopes-requires-clause-mems c = none_yet mem_scope (MemStands c.args.scopes.now) 0 c.new-2.result c.new-2.ensures

pub returns-clause-ports : goal.returns-clause-ports
returns-clause-ports c =
    begins_through
    (begins_first (map (held_typed 0) c.args.ports.items) (map typed c.new.result) (map typed c.put_vars.new.vars) (ap (map typed) c.new.ensures) c.in_ok-put_vars.ensures.typed)
    c.in_ok-put_scopes.ensures.grows
