use Rattle.std.proofs.Common.{ap, ◌∙◌, length}
use Rattle.plan_types.specs.Machine.{Machine}
use Rattle.sim_session.specs.Inputs.{inputs_at}
use Rattle.sim_session.proofs.Lengths.{evaluated_length}
use Rattle.sim_session.proofs.eval.advance.Goals as goal

pub put_values-requires-clause-words : goal.put_values-requires-clause-words
put_values-requires-clause-words g c κs held =
    ap (λ (m : Machine). length m.outside.words) c.in-Ok.ensures.machine
    ∙ evaluated_length g.R.Host.Host.answer g.R.Host.Host.after c.args.built.now (inputs_at c.args.built.now.design.ports c.args.set.now) (g.R.Runner.machine c.args.runner.now) ∙ c.requires.words

pub returns-in-Ok-clause-words : goal.returns-in-Ok-clause-words
returns-in-Ok-clause-words g c =
    ap (λ (m : Machine). length m.outside.words) c.in-Ok.ensures.machine
    ∙ evaluated_length g.R.Host.Host.answer g.R.Host.Host.after c.args.built.now (inputs_at c.args.built.now.design.ports c.args.set.now) (g.R.Runner.machine c.args.runner.now) ∙ c.requires.words

pub returns-in-Err-clause-words : goal.returns-in-Err-clause-words
returns-in-Err-clause-words g c =
    ap (λ (m : Machine). length m.outside.words) c.in-Err.ensures.machine
    ∙ evaluated_length g.R.Host.Host.answer g.R.Host.Host.after c.args.built.now (inputs_at c.args.built.now.design.ports c.args.set.now) (g.R.Runner.machine c.args.runner.now) ∙ c.requires.words
