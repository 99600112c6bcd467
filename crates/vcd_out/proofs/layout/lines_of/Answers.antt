use Rattle.std.proofs.Common.{◌∙◌, ap}
use Rattle.vcd_out.specs.Places.{are_first}
use Rattle.vcd_out.proofs.Keys.{outers_first}
use Rattle.vcd_out.proofs.layout.lines_of.Goals as goal

pub walk-requires-clause-outers_first : goal.walk-requires-clause-outers_first
walk-requires-clause-outers_first c = ap (are_first 0) c.in_ok-scopes.ensures.keys ∙ outers_first 0 c.args.design.now.scopes c.args.design.now.parents_first
