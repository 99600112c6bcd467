use Rattle.std.proofs.Common.{◌∙◌}
use Rattle.elab_parts.proofs.Placing.{at_later}
use Rattle.elab_parts.proofs.given.at_place.Goals as goal

pub returns : goal.returns
returns c = (rw c.as_slice.ensures at c.later.ensures) ∙ at_later c.args.named.now c.args.place c.if-place-eq0.false c.if-place-eq1.false
