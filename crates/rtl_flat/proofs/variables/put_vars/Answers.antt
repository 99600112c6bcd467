use Rattle.std.proofs.Common.{ap}
use Rattle.rtl_flat.specs.Laid.{VarStands, typed, held_typed, var_scope}
use Rattle.rtl_flat.proofs.Laying.{one_more, mapped_more}
use Rattle.rtl_flat.proofs.variables.put_vars.Goals as goal

pub loop-held-preserved : goal.loop-held-preserved
loop-held-preserved c = record {
  up_to =
      one_more var_scope (VarStands c.args.scopes.now) c.args.scope _ _ _ c.in_ok-push.ensures.ok (ap (λ t. t.scope) c.in_ok-new_var.ensures.typed)
      c.in_ok-new_var.ensures.stands c.loop-held.invariant.up_to;
  typed = mapped_more typed (held_typed c.args.scope) _ _ _ _ _ _ c.in_ok-push.ensures.ok c.in_ok-new_var.ensures.typed c.loop-held.invariant.typed;
}
