use Rattle.std.proofs.Common.{arith}
use Rattle.sim_session.specs.Runs.{setting}
use Rattle.sim_session.proofs.EvalLaws.{all_done, files_stopped}
use Rattle.sim_session.proofs.Sets.{ready_counted}
use Rattle.sim_session.proofs.whole.run_session.Goals as goal

pub run_texts-requires-clause-ready : goal.run_texts-requires-clause-ready
run_texts-requires-clause-ready g c κs held =
    ready_counted c.args.texts.now c.args.built.now c.args.session.now (g.R.Runner.machine c.args.runner.now) c.create_files.new.done c.requires.ready
    (let two = c.in-Ok.ensures.two in let done = c.requires.done in omega arith)

pub returns-in-Ok-clause-ended : goal.returns-in-Ok-clause-ended
returns-in-Ok-clause-ended g c =
    all_done (setting g.R.Host.Host.answer g.R.Host.Host.after c.args.built.now c.args.texts.now) (g.R.Runner.machine c.args.runner.now) _ c.run_texts.result _ _ _ c.in-Ok.ensures.created.1 c.run_texts.ensures.wrote

pub returns-in-Err-clause-ended : goal.returns-in-Err-clause-ended
returns-in-Err-clause-ended g c =
    files_stopped (setting g.R.Host.Host.answer g.R.Host.Host.after c.args.built.now c.args.texts.now) (g.R.Runner.machine c.args.runner.now) _ c.in-Err.fault _ _ c.in-Err.ensures.created
