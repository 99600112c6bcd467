use Rattle.std.proofs.Common.{ap, ◌∙◌, set, Some}
use Rattle.sv_pp.proofs.Tables.{shown_set}
use Rattle.sv_pp.proofs.macros.Table.define.Goals as goal

pub returns-clause-kept : goal.returns-clause-kept
returns-clause-kept c = shown_set (λ body. body.items) c.self.inside.bodies.items c.args.self.now c.args.name.0 (Some c.in-Ok.kept) c.self.view_is ∙ ap (λ body. set c.args.self.now c.args.name.0 (Some body)) c.in-Ok.ensures.items
