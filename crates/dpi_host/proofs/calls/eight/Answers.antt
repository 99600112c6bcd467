use Rattle.std.proofs.Common.{[], ◌∷◌, ◌∙◌}
use Rattle.dpi_host.proofs.CallLemmas.{first_eight_is}
use Rattle.dpi_host.proofs.calls.eight.Goals as goal

pub returns : goal.returns
returns c =
    (λ i. c.argument.ensures i ∷ c.argument-2.ensures i ∷ c.argument-3.ensures i ∷ c.argument-4.ensures i ∷ c.argument-5.ensures i ∷ c.argument-6.ensures i ∷ c.argument-7.ensures i ∷ c.argument-8.ensures i ∷ [])
    ∙ first_eight_is c.args.args.now c.requires
