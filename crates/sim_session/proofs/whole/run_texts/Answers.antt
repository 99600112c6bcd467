use Rattle.std.proofs.Common.{List, ap, sym, subst, arith}
use Rattle.vs_base.specs.Number.{Number}
use Rattle.sim_session.specs.Inputs.{inputs_from}
use Rattle.sim_session.specs.Runs.{setting}
use Rattle.sim_session.specs.Ready.{IsOpened}
use Rattle.sim_session.proofs.EvalLaws.{texts_written, ran_machine, ran_number, head_stopped}
use Rattle.sim_session.proofs.Sets.{ready_counted}
use Rattle.sim_session.proofs.whole.run_texts.Goals as goal

pub run_acts-requires-clause-ready : goal.run_acts-requires-clause-ready
run_acts-requires-clause-ready g c κs held =
    ready_counted c.args.texts.now c.args.built.now c.args.session.now (g.R.Runner.machine c.args.runner.now) c.write_header.new.done c.requires.ready
    (let one = c.in-Ok.ensures.one in let done = c.requires.done in omega arith)

pub run_acts-requires-clause-opened : goal.run_acts-requires-clause-opened
run_acts-requires-clause-opened g c κs held = subst (λ made. IsOpened c.args.texts.now made) (sym c.in-Ok.ensures.made) c.requires.opened

pub returns-in-Ok-clause-machine : goal.returns-in-Ok-clause-machine
returns-in-Ok-clause-machine g c =
    let d = c.args.built.now.design in
    ran_machine _ _ _ (ap (λ (l : List Number). inputs_from d c.args.acts.now l) c.requires.set) c.run_acts.result _ _ c.requires.number c.run_acts.ensures.ran

pub returns-in-Ok-clause-number : goal.returns-in-Ok-clause-number
returns-in-Ok-clause-number g c =
    let d = c.args.built.now.design in
    ran_number _ _ _ (ap (λ (l : List Number). inputs_from d c.args.acts.now l) c.requires.set) c.run_acts.result _ _ c.requires.number c.run_acts.ensures.ran

pub returns-in-Ok-clause-wrote : goal.returns-in-Ok-clause-wrote
returns-in-Ok-clause-wrote g c =
    let d = c.args.built.now.design in
    texts_written _ _ _ (ap (λ (l : List Number). inputs_from d c.args.acts.now l) c.requires.set) c.run_acts.result _ _ c.requires.number c.run_acts.ensures.ran
    _ c.in-Ok.ensures.wrote.1

pub returns-in-Err-clause-wrote : goal.returns-in-Err-clause-wrote
returns-in-Err-clause-wrote g c =
    head_stopped (setting g.R.Host.Host.answer g.R.Host.Host.after c.args.built.now c.args.texts.now) (g.R.Runner.machine c.args.runner.now) _ c.in-Err.fault _ _ c.in-Err.ensures.wrote
