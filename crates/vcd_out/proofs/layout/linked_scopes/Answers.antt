use Rattle.vcd_out.proofs.Keys.{all_outers_below}
use Rattle.vcd_out.proofs.layout.linked_scopes.Goals as goal

pub new-requires : goal.new-requires
new-requires c = rw (c.in_ok-outers.ensures, c.as_slice-scopes.ensures) (all_outers_below c.args.design.now.scopes c.args.design.now.parents_first)
