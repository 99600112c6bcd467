use Rattle.rtl_flat.specs.Laid.{MemStands, mem_scope}
use Rattle.rtl_flat.proofs.Laying.{one_more}
use Rattle.rtl_flat.proofs.variables.put_mems.Goals as goal

pub loop-held-preserved : goal.loop-held-preserved
loop-held-preserved c =
    one_more mem_scope (MemStands c.args.scopes.now) c.args.scope _ _ _ c.in_ok-push.ensures.ok c.in_ok-new_mem.ensures.scope c.in_ok-new_mem.ensures.stands c.loop-held.invariant
