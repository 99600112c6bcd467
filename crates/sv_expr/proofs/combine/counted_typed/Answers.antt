use Rattle.std.proofs.Common.{◌∙◌}
use Rattle.sv_expr.proofs.Nearest.{count_near}
use Rattle.sv_expr.proofs.combine.counted_typed.Goals as goal

pub returns-clause-typed : goal.returns-clause-typed
returns-clause-typed c =
    c.near_counted_typed.ensures.typed ∙ count_near c.args.at c.args.earlier c.args.count
