use Rattle.std.proofs.Common.{ℕ, List, ap, ◌∙◌}
use Rattle.plan_types.specs.Machine.{fired_of, some_fired}
use Rattle.plain_runner.proofs.eval.test.Goals as goal

pub returns-clause-some : goal.returns-clause-some
returns-clause-some c =
    c.fire-some.ensures.any
    ∙ ap (λ (last : List ℕ). some_fired (fired_of c.args.built.now.design.procs c.args.built.now.layout.words.items last c.args.now.now)) c.as_slice-2.ensures.value
