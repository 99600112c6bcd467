use Rattle.std.proofs.Common.{sym}
use Rattle.sv_tree.proofs.Keys.{found_text, absent_text}
use Rattle.sv_tree.proofs.names.Names.find.Goals as goal

pub returns-in_default : goal.returns-in_default
returns-in_default c = rw (← c.self.view_is) (absent_text (λ t. t.items) c.args.text.now c.self.inside.texts.keys (sym c.in_default.ensures.found))

pub returns : goal.returns
returns c = rw (← c.self.view_is) (found_text (λ t. t.items) c.args.text.now c.self.inside.texts.keys c.in-Some.place (sym c.in-Some.ensures.index))
