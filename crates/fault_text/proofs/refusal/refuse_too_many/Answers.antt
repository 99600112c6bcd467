use Rattle.std.proofs.Common.{◌++◌, ℕ, List, subst}
use Rattle.std.specs.Prelude.{codes}
use Rattle.run_status.specs.Answer.{Refuses}
use Rattle.fault_text.proofs.refusal.refuse_too_many.Goals as goal

pub returns : goal.returns
returns g c = record {
  told = subst (λ (t : List ℕ). Refuses c.refuse.result (codes "too many " ++ t) (g.W.World.told c.args.world.now) (g.W.World.told c.refuse.new.world)) c.kind_text.ensures c.refuse.ensures.told;
}
