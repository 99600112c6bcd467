use Rattle.std.proofs.Common.{map}
use Rattle.rtl_flat.specs.Laid.{typed}
use Rattle.rtl_flat.proofs.Laying.{begins_more}
use Rattle.rtl_flat.proofs.variables.put_scope.Goals as goal

pub returns-clause-grows : goal.returns-clause-grows
returns-clause-grows c = begins_more (map typed c.args.all.now.vars) (map typed c.put_vars.new.vars) _ c.in_ok-put_vars.ensures.typed
