use Rattle.std.proofs.Common.{◌≤◌, List, refl, sym, ap, ◌∙◌, subst, length}
use Rattle.vs_base.specs.Number.{Number}
use Rattle.plan_types.specs.declared.built.Built.{Built}
use Rattle.plan_types.specs.Machine.{evaluated, converges}
use Rattle.plan_types.specs.Room.{call_room}
use Rattle.vcd_out.specs.Changes.{widths_of}
use Rattle.sim_session.specs.Inputs.{inputs_at}
use Rattle.sim_session.specs.Ends.{stand}
use Rattle.sim_session.proofs.EvalLaws.{not_converged, ran_one, stopped_one}
use Rattle.sim_session.proofs.Placing.{values_width}
use Rattle.sim_session.proofs.eval.run_eval.Goals as goal

pub returns-in-Err-clause-ran : goal.returns-in-Err-clause-ran
returns-in-Err-clause-ran g c =
    let same = ap (λ (l : List Number). converges g.R.Host.Host.answer g.R.Host.Host.after c.args.built.now (inputs_at c.args.built.now.design.ports l) (g.R.Runner.machine c.args.runner.now)) c.as_slice.ensures.value in
    not_converged _ _ (stand c.args.session.now (g.R.Runner.machine c.args.runner.now) (g.W.World.told c.args.world.now)) (sym same ∙ sym c.in-Err.ensures.converges)

pub write_texts-requires-clause-calls : goal.write_texts-requires-clause-calls
write_texts-requires-clause-calls g c = subst (λ (b : Built). length c.calls.result.now ≤ call_room b) c.in-Ok.ensures.same c.calls.ensures.few

pub write_texts-requires-clause-old : goal.write_texts-requires-clause-old
write_texts-requires-clause-old g c =
    ap widths_of (c.as_slice-2.ensures.value ∙ c.requires.ready.before)
    ∙ values_width 0 c.args.built.now.design.vars c.args.built.now.layout.words.items (g.R.Runner.machine c.args.runner.now).outside.words

pub write_texts-requires-clause-new : goal.write_texts-requires-clause-new
write_texts-requires-clause-new g c =
    ap widths_of (c.as_slice-3.ensures.value ∙ c.in-Ok.ensures.new)
    ∙ values_width 0 c.args.built.now.design.vars c.args.built.now.layout.words.items (g.R.Runner.machine c.advance.new.runner).outside.words

pub returns-in-Err-write_texts-clause-ran : goal.returns-in-Err-write_texts-clause-ran
returns-in-Err-write_texts-clause-ran g c =
    let d = c.args.built.now.design in
    let m = g.R.Runner.machine c.args.runner.now in
    let set = c.as_slice.ensures.value in
    stopped_one _ _ _ _ _ (stand c.args.session.now m (g.W.World.told c.args.world.now)) _
    (ap (λ (l : List Number). converges g.R.Host.Host.answer g.R.Host.Host.after c.args.built.now (inputs_at d.ports l) m) (sym set) ∙ sym c.in-Ok.ensures.converges)
    (c.in-Ok.ensures.machine ∙ ap (λ (l : List Number). evaluated g.R.Host.Host.answer g.R.Host.Host.after c.args.built.now (inputs_at d.ports l) m) set)
    c.calls.ensures.calls
    (c.as_slice-2.ensures.value ∙ c.requires.ready.before)
    (c.as_slice-3.ensures.value ∙ c.in-Ok.ensures.new)
    c.in-Err-write_texts.fault _ c.in-Err-write_texts.ensures.wrote

pub returns-clause-ran : goal.returns-clause-ran
returns-clause-ran g c =
    let d = c.args.built.now.design in
    let m = g.R.Runner.machine c.args.runner.now in
    let set = c.as_slice.ensures.value in
    ran_one _ _ _ _ _ (stand c.args.session.now m (g.W.World.told c.args.world.now)) _
    (ap (λ (l : List Number). converges g.R.Host.Host.answer g.R.Host.Host.after c.args.built.now (inputs_at d.ports l) m) (sym set) ∙ sym c.in-Ok.ensures.converges)
    (c.in-Ok.ensures.machine ∙ ap (λ (l : List Number). evaluated g.R.Host.Host.answer g.R.Host.Host.after c.args.built.now (inputs_at d.ports l) m) set)
    c.calls.ensures.calls
    (c.as_slice-2.ensures.value ∙ c.requires.ready.before)
    (c.as_slice-3.ensures.value ∙ c.in-Ok.ensures.new)
    _ refl refl c.in-Ok-write_texts.ensures.made c.in-Ok-write_texts.ensures.wrote.1
