use Rattle.std.proofs.Common.{ap, arith}
use Rattle.sv_elab.proofs.Rooteds.{rooted_set}
use Rattle.sv_elab.proofs.scopes.Scopes.put.Goals as goal

pub invariant_of-self : goal.invariant_of-self
invariant_of-self c = record {
  rooted =
      rooted_set c.args.self.now.scopes.items c.args.scope _ _ (omega (arith, c.if-place-len.false, c.len.ensures, c.args.self.now.scopes.ok.0))
      (ap (λ s. s.parent) c.index_mut-scope.ensures.value) (ap (λ s. s.block) c.index_mut-scope.ensures.value) c.args.self.now.rooted;
}
