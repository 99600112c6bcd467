use Rattle.std.proofs.Common.{◌≡◌, ◌<◌, ◌+◌, ◌*◌, ◌^◌}
use Rattle.sim_session.specs.Inputs.{turns_inputs, after_turns}
use Rattle.sim_session.specs.Runs.{setting}
use Rattle.sim_session.specs.Ends.{stand}
use Rattle.sim_session.specs.Ready.{IsOpened, IsReady}
use Rattle.sim_session.proofs.Going.{Going}
use Rattle.sim_session.proofs.acts.run_turns.Given as goal

abbrev pub invariant-turns : goal.invariant-turns
invariant-turns g l = record {
  same : g.R.Runner.built l.runner ≡ l.built;
  ready : IsReady l.texts l.built l.session (g.R.Runner.machine l.runner);
  opened : IsOpened l.texts (g.W.World.told l.world).made;
  few : l.session.number + (2 * l.left + 1) < 2 ^ 60;
  set : after_turns l.built.design l.place l.left l.session.set.items ≡ after_turns l.built.design l.place l.turns l.fn.session.set.items;
  going : Going (setting g.R.Host.Host.answer g.R.Host.Host.after l.built l.texts) (turns_inputs l.built.design l.place l.left l.session.set.items) (turns_inputs l.built.design l.place l.turns l.fn.session.set.items)
      (stand l.fn.session (g.R.Runner.machine l.fn.runner) (g.W.World.told l.fn.world)) (stand l.session (g.R.Runner.machine l.runner) (g.W.World.told l.world));
}

abbrev pub decreases-turns : goal.decreases-turns
decreases-turns g l = l.left
