use Rattle.std.proofs.Common.{◌∙◌}
use Rattle.sim_session.proofs.Steps.{quarter_up}
use Rattle.sim_session.proofs.hex.digit_count.Goals as goal

pub returns : goal.returns
returns c = c.div_ceil.ensures ∙ quarter_up c.args.width
