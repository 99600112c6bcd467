use Rattle.std.proofs.Common.{◌++◌, ◌∙◌, ℕ, List, subst}
use Rattle.std.specs.Prelude.{codes}
use Rattle.run_status.specs.Answer.{Refuses}
use Rattle.fault_text.proofs.refusal.refuse_eval.Goals as goal

pub returns : goal.returns
returns g c = record {
  told = subst (λ (d : List ℕ). Refuses c.refuse_about.result (codes "eval " ++ d ++ codes ": not converged") (g.W.World.told c.args.world.now) (g.W.World.told c.refuse_about.new.world))
      (c.as_bytes-eval.ensures.value ∙ c.format.ensures.text) c.refuse_about.ensures.told;
}
