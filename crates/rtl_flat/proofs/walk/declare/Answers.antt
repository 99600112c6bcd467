use Rattle.std.proofs.Common.{ap, ◌∙◌}
use Rattle.scope_table.specs.Scopes.{declared}
use Rattle.sv_expr.specs.declared.scope.Denoted.TheVariants as denoted
use Rattle.rtl_flat.proofs.Facts.{same_fixed}
use Rattle.rtl_flat.proofs.walk.declare.Goals as goal

pub returns : goal.returns
returns c =
    c.in_ok-declare.ensures.declares
    ∙ ap (λ f. declared c.args.constant.name.0 (denoted.Constant f) c.args.table.now) (same_fixed c.args.constant.kind c.args.constant.value _ _ _ _ _ _)
