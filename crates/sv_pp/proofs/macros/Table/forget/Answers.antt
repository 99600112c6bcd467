use Rattle.std.proofs.Common.{None}
use Rattle.sv_pp.proofs.Tables.{shown_set}
use Rattle.sv_pp.proofs.macros.Table.forget.Goals as goal

pub returns : goal.returns
returns c = shown_set (λ body. body.items) c.self.inside.bodies.items c.args.self.now c.args.name.0 None c.self.view_is
