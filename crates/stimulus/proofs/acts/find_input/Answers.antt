use Rattle.std.proofs.Common.{◌∙◌}
use Rattle.stimulus.proofs.Sets.{place_within}
use Rattle.stimulus.proofs.acts.find_input.Goals as goal

pub returns-clause-within : goal.returns-clause-within
returns-clause-within c = place_within c.args.design.now.vars c.args.design.now.ports c.args.name.now c.place.result (c.place.ensures ∙ c.requires c.args.name.now)
