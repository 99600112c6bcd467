use Rattle.std.proofs.Common.{◌≡◌, List, sym, subst}
use Rattle.std.specs.Prelude.{Ok}
use Rattle.vs_base.specs.declared.act.Act.{Act}
use Rattle.run_status.specs.StageLaws.{leaves_none}
use Rattle.stimulus.specs.Stimulus.{stim_acts, design_ports}
use Rattle.vsim_cli.specs.Case.{command_by, host_view}
use Rattle.vsim_cli.specs.RunLaws.{acts_whole, acts_came, stimulus_came}
use Rattle.vsim_cli.proofs.model.run_stimulus.Goals as goal

pub returns-in-Err-clause-came : goal.returns-in-Err-clause-came
returns-in-Err-clause-came g c = λ named table.
    let h = host_view (g.H.Host.id_of (g.H.Host.fixed c.args.host)) (g.H.Host.by_args (g.H.Host.fixed c.args.host)) g.H.Host.answer g.H.Host.after (g.H.Host.fixed c.args.host) (g.H.Host.state c.args.host) in
    stimulus_came (command_by c.args.command.now) h c.args.built.now c.args.stim.now (g.W.World.told c.args.world.now) named c.in-Err.fault c.in-Err.ensures.fault

pub returns-in_default-clause-came : goal.returns-in_default-clause-came
returns-in_default-clause-came g c = λ named table. leaves_none (g.W.World.told c.args.world.now)

pub returns-in-Ok-run-clause-done : goal.returns-in-Ok-run-clause-done
returns-in-Ok-run-clause-done g c =
    let h = host_view (g.H.Host.id_of (g.H.Host.fixed c.args.host)) (g.H.Host.by_args (g.H.Host.fixed c.args.host)) g.H.Host.answer g.H.Host.after (g.H.Host.fixed c.args.host) (g.H.Host.state c.args.host) in
    let built = c.args.built.now in
    let acts = subst (λ (l : List Act). stim_acts (design_ports built.design) c.args.stim.now ≡ Ok l) (sym c.deref.ensures.value) c.in-Ok.ensures.acts in
    acts_whole (command_by c.args.command.now) h built c.args.stim.now c.deref.result.now acts _ c.in-Ok-open.ensures.machine (g.W.World.told c.args.world.now) (g.W.World.told c.run.new.world) c.in-Ok-run.field-0 c.in-Ok-run.ensures.ended

pub returns-clause-came : goal.returns-clause-came
returns-clause-came g c = λ named table.
    let h = host_view (g.H.Host.id_of (g.H.Host.fixed c.args.host)) (g.H.Host.by_args (g.H.Host.fixed c.args.host)) g.H.Host.answer g.H.Host.after (g.H.Host.fixed c.args.host) (g.H.Host.state c.args.host) in
    let built = c.args.built.now in
    let acts = subst (λ (l : List Act). stim_acts (design_ports built.design) c.args.stim.now ≡ Ok l) (sym c.deref.ensures.value) c.in-Ok.ensures.acts in
    acts_came (command_by c.args.command.now) h built c.args.stim.now c.deref.result.now acts _ c.in-Ok-open.ensures.machine (g.W.World.told c.args.world.now) (g.W.World.told c.run.new.world) named table c.in-Err-run.fault c.in-Err-run.ensures.ended
