use Rattle.std.proofs.Common.{◌≡◌, [], true, sym, ap, subst}
use Rattle.std.specs.Prelude.{Ok}
use Rattle.vs_base.specs.declared.act.Act.{Act}
use Rattle.stimulus.specs.Stimulus.{act_fits, design_ports}
use Rattle.sim_session.specs.Inputs.{act_inputs}
use Rattle.sim_session.proofs.EvalLaws.{ran_none, ran_from}
use Rattle.sim_session.proofs.Sets.{ready_set, stands, fits_width}
use Rattle.sim_session.proofs.acts.run_act.Goals as goal

pub returns-in-Set-clause-ready : goal.returns-in-Set-clause-ready
returns-in-Set-clause-ready g c =
    ready_set c.args.session.now c.set_port.new.session c.set_port.ensures.rest c.args.texts.now c.args.built.now (g.R.Runner.machine c.args.runner.now) c.in-Set.port c.in-Set.value
    c.requires.ready c.set_port.ensures.set
    (fits_width c.args.built.now c.in-Set.port c.in-Set.value (subst (λ (a : Act). act_fits (design_ports c.args.built.now.design) a ≡ true) c.in-Set.is c.requires.fits))

pub returns-in-Set-clause-ran : goal.returns-in-Set-clause-ran
returns-in-Set-clause-ran g c =
    let d = c.args.built.now.design in
    ran_from _ [] _ (Ok tt) _ _ _ (ap (λ (a : Act). act_inputs d a c.args.session.now.set.items) (sym c.in-Set.is))
    (stands c.args.session.now c.set_port.new.session c.set_port.ensures.rest _ _) (ran_none _ _)
