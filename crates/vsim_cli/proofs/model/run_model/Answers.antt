use Rattle.std.proofs.Common.{◌≡◌, ℕ, [], Option, sym, ap, ◌∙◌}
use Rattle.std.specs.Prelude.{Vec}
use Rattle.std.specs.declared.alloc.Global.{Global}
use Rattle.run_status.specs.Answer.{Answer}
use Rattle.run_status.specs.StageLaws.{leaves_none, came_later, finished_later}
use Rattle.vsim_cli.specs.Case.{command_by, host_view, bytes_by}
use Rattle.vsim_cli.specs.Refusals.{ending_of}
use Rattle.vsim_cli.specs.Run.{bytes_answer, built_answer}
use Rattle.vsim_cli.specs.RunLaws.{check_finished}
use Rattle.vsim_cli.proofs.model.run_model.Goals as goal

pub returns-in_default-clause-done : goal.returns-in_default-clause-done
returns-in_default-clause-done g c =
    let h = host_view (g.H.Host.id_of (g.H.Host.fixed c.args.host)) (g.H.Host.by_args (g.H.Host.fixed c.args.host)) g.H.Host.answer g.H.Host.after (g.H.Host.fixed c.args.host) (g.H.Host.state c.args.host) in
    check_finished (command_by c.args.command.now) h c.args.built.now (bytes_by c.args.stim.now) (ap bytes_by c.in_default.is) (g.W.World.told c.args.world.now)

pub returns-in-Ok-clause-done : goal.returns-in-Ok-clause-done
returns-in-Ok-clause-done g c =
    let h = host_view (g.H.Host.id_of (g.H.Host.fixed c.args.host)) (g.H.Host.by_args (g.H.Host.fixed c.args.host)) g.H.Host.answer g.H.Host.after (g.H.Host.fixed c.args.host) (g.H.Host.state c.args.host) in
    let command = command_by c.args.command.now in
    let built = c.args.built.now in
    let t0 = g.W.World.told c.args.world.now in
    let t1 = g.W.World.told c.run_stimulus.new.world in
    let same : bytes_answer command h built c.deref.result.now ≡ built_answer command h built (bytes_by c.args.stim.now)
    = ap (bytes_answer command h built) c.deref.ensures.value ∙ sym (ap (λ (o : Option (Vec ℕ Global)). built_answer command h built (bytes_by o)) c.in-Some.is) in
    finished_later (λ (a : Answer). a ≡ bytes_answer command h built c.deref.result.now) (λ (a : Answer). a ≡ built_answer command h built (bytes_by c.args.stim.now)) [] (λ (a : Answer) is. is ∙ same) t0 t0 t1 (leaves_none t0) c.in-Ok.ensures.done

pub returns-in-Err-clause-came : goal.returns-in-Err-clause-came
returns-in-Err-clause-came g c = λ named table.
    let h = host_view (g.H.Host.id_of (g.H.Host.fixed c.args.host)) (g.H.Host.by_args (g.H.Host.fixed c.args.host)) g.H.Host.answer g.H.Host.after (g.H.Host.fixed c.args.host) (g.H.Host.state c.args.host) in
    let command = command_by c.args.command.now in
    let built = c.args.built.now in
    let t0 = g.W.World.told c.args.world.now in
    let t1 = g.W.World.told c.run_stimulus.new.world in
    let same : bytes_answer command h built c.deref.result.now ≡ built_answer command h built (bytes_by c.args.stim.now)
    = ap (bytes_answer command h built) c.deref.ensures.value ∙ sym (ap (λ (o : Option (Vec ℕ Global)). built_answer command h built (bytes_by o)) c.in-Some.is) in
    came_later (λ (a : Answer). a ≡ bytes_answer command h built c.deref.result.now) (λ (a : Answer). a ≡ built_answer command h built (bytes_by c.args.stim.now)) named (λ (a : Answer) is. is ∙ same) t0 t0 t1 (leaves_none t0)
    (ending_of command table c.in-Err.refusal) (c.in-Err.ensures.came named table)
