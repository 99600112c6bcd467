use Rattle.std.proofs.Common.{◌≤◌, map, arith}
use Rattle.rtl_flat.specs.Laid.{VarStands, MemStands, typed, var_scope, mem_scope}
use Rattle.rtl_flat.proofs.Laying.{later, begins_itself, begins_through}
use Rattle.rtl_flat.proofs.variables.put_scopes.Goals as goal

pub loop-held-init : goal.loop-held-init
loop-held-init c = record { grows = begins_itself (map typed c.args.all.now.vars); vars = c.requires.vars; mems = c.requires.mems; fits = omega arith }

pub loop-held-preserved : goal.loop-held-preserved
loop-held-preserved c =
    let less : c.loop-held.scope ≤ c.saturating_add-scope.result = omega arith in
    record {
      grows = begins_through c.loop-held.invariant.grows c.in_ok-extent.ensures.grows;
      vars = later var_scope (VarStands c.args.scopes.now) c.loop-held.scope c.saturating_add-scope.result c.put_scope.new.all.vars less c.in_ok-extent.ensures.vars;
      mems = later mem_scope (MemStands c.args.scopes.now) c.loop-held.scope c.saturating_add-scope.result c.put_scope.new.all.mems less c.in_ok-extent.ensures.mems;
      fits = omega arith;
    }
