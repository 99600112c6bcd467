use Rattle.std.proofs.Common.{◌∙◌, ap, ℤ, pos, ◌*ℤ◌}
use Rattle.vs_base.specs.Number.{reading}
use Rattle.vs_base.specs.WholeNumber.{nearest}
use Rattle.sv_expr.specs.Bound.{ranged}
use Rattle.sv_expr.proofs.Nearest.{times_near}
use Rattle.sv_expr.proofs.combine.times_typed.Goals as goal

pub returns-clause-typed : goal.returns-clause-typed
returns-clause-typed c =
    let count : ℤ = reading c.args.count.now.signed c.args.count.now.value in
    c.near_times_typed.ensures.typed ∙ ap (λ (k : ℤ). ranged c.args.at c.args.earlier (nearest k *ℤ pos c.args.width)) c.reading.ensures ∙ times_near c.args.at c.args.earlier count c.args.width
