use Rattle.std.proofs.Common.{◌∙◌, ◌-ℤ◌}
use Rattle.sv_expr.proofs.Nearest.{down_near}
use Rattle.sv_expr.proofs.combine.down_typed.Goals as goal

pub returns-clause-typed : goal.returns-clause-typed
returns-clause-typed c =
    c.near_down_typed.ensures.typed ∙ down_near c.args.at c.args.earlier (c.args.from -ℤ c.args.to)
