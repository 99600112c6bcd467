use Rattle.std.proofs.Common.{◌∙◌}
use Rattle.parse_expr.proofs.Spelled.{the_by, the_not}
use Rattle.parse_expr.proofs.subset.is_the.Goals as goal

pub returns-in-Mark : goal.returns-in-Mark
returns-in-Mark c = c.eq.ensures ∙ the_by _ _ _ _ _ c.in-Mark.is c.text.ensures

pub returns-in_default : goal.returns-in_default
returns-in_default c = the_not _ _ _ c.in_default.not-Mark
