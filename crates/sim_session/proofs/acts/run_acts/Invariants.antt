use Rattle.std.proofs.Common.{◌≡◌, ◌<◌, ◌+◌, ◌^◌, length, true}
use Rattle.std.specs.List.{list_all}
use Rattle.stimulus.specs.Stimulus.{act_fits, design_ports, evals_in}
use Rattle.sim_session.specs.Inputs.{inputs_from}
use Rattle.sim_session.specs.Runs.{setting}
use Rattle.sim_session.specs.Ends.{stand}
use Rattle.sim_session.specs.Ready.{IsOpened, IsReady}
use Rattle.sim_session.proofs.Going.{Going}
use Rattle.sim_session.proofs.acts.run_acts.Given as goal

abbrev pub invariant-acts : goal.invariant-acts
invariant-acts g l = record {
  same : g.R.Runner.built l.runner ≡ l.built;
  ready : IsReady l.texts l.built l.session (g.R.Runner.machine l.runner);
  opened : IsOpened l.texts (g.W.World.told l.world).made;
  fits : list_all (act_fits (design_ports l.built.design)) l.rest ≡ true;
  few : l.session.number + (evals_in l.rest + 1) < 2 ^ 60;
  going : Going (setting g.R.Host.Host.answer g.R.Host.Host.after l.built l.texts) (inputs_from l.built.design l.rest l.session.set.items) (inputs_from l.built.design l.acts l.fn.session.set.items)
      (stand l.fn.session (g.R.Runner.machine l.fn.runner) (g.W.World.told l.fn.world)) (stand l.session (g.R.Runner.machine l.runner) (g.W.World.told l.world));
}

abbrev pub decreases-acts : goal.decreases-acts
decreases-acts g l = length l.rest
