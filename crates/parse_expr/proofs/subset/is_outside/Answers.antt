use Rattle.std.proofs.Common.{◌∙◌, ap, not}
use Rattle.parse_expr.proofs.Spelled.{outside_by, outside_not}
use Rattle.parse_expr.proofs.subset.is_outside.Goals as goal

pub returns-in-Word : goal.returns-in-Word
returns-in-Word c = c.is_word.ensures ∙ outside_by _ _ _ _ c.in-Word.is c.text.ensures

pub returns-in-Mark : goal.returns-in-Mark
returns-in-Mark c = c.is_mark.ensures ∙ outside_by _ _ _ _ c.in-Mark.is c.text-in-Mark.ensures

pub returns-in-System : goal.returns-in-System
returns-in-System c = ap not c.is_function.ensures ∙ outside_by _ _ _ _ c.in-System.is c.text-in-System.ensures

pub returns-in_default : goal.returns-in_default
returns-in_default c = outside_not _ _ c.in_default.not-Word c.in_default.not-System c.in_default.not-Mark
