use Rattle.std.proofs.Common.{length}
use Rattle.vcd_out.proofs.Keys.{owners_below}
use Rattle.vcd_out.proofs.layout.linked_vars.Goals as goal

pub new-requires : goal.new-requires
new-requires c = rw (c.in_ok-owners.ensures, c.as_slice.ensures, c.len.ensures) (owners_below (length c.args.design.now.scopes) c.args.design.now.vars c.args.design.now.vars_fit)
