use Rattle.std.proofs.Common.{◌∙◌, ap, ℤ, pos, ◌*ℤ◌}
use Rattle.vs_base.specs.Number.{reading}
use Rattle.vs_base.specs.WholeNumber.{nearest}
use Rattle.sv_expr.specs.Bound.{is_width, whole_part}
use Rattle.sv_expr.proofs.Nearest.{fits_near}
use Rattle.sv_expr.proofs.combine.times_fits.Goals as goal

pub returns : goal.returns
returns c =
    let count : ℤ = reading c.args.count.now.signed c.args.count.now.value in
    c.near_times_fits.ensures ∙ ap (λ (k : ℤ). is_width (whole_part (nearest k *ℤ pos c.args.width))) c.reading.ensures ∙ fits_near count c.args.width
