use Rattle.std.proofs.Common.{ℕ, List, map, subst}
use Rattle.std.specs.Prelude.{Vec}
use Rattle.std.specs.declared.alloc.Global.{Global}
use Rattle.vs_world.specs.declared.world.Stream.TheVariants.{Calls, Vcd}
use Rattle.run_status.specs.Stages.{RefusedBy}
use Rattle.vsim_cli.specs.Case.{command_by, host_view, names_of}
use Rattle.vsim_cli.specs.Inputs.{inputs_by}
use Rattle.vsim_cli.specs.InputLaws.{inputs_came, still_creatable}
use Rattle.vsim_cli.specs.Refusals.{ending_of}
use Rattle.vsim_cli.specs.Answers.{CheckRefused, IsChecked}
use Rattle.vsim_cli.specs.TopLaws.{check_came, run_came, run_finished}
use Rattle.vsim_cli.proofs.top.stages.Goals as goal

abbrev texts : List (Vec ℕ Global) → List (List ℕ)
texts l = map (λ (f : Vec ℕ Global). f.items) l

pub returns-in-Err-clause-came : goal.returns-in-Err-clause-came
returns-in-Err-clause-came g c =
    let h = host_view (g.H.Host.id_of (g.H.Host.fixed c.args.host)) (g.H.Host.by_args (g.H.Host.fixed c.args.host)) g.H.Host.answer g.H.Host.after (g.H.Host.fixed c.args.host) (g.H.Host.state c.args.host) in
    inputs_came (command_by c.args.command.now) h c.args.names.now (g.W.World.told c.args.world.now) (g.W.World.told c.read_inputs.new.world) c.in-Err.ensures.rest c.in-Err.refusal c.in-Err.ensures.stop

pub returns-in-Err-check-clause-came : goal.returns-in-Err-check-clause-came
returns-in-Err-check-clause-came g c =
    let h = host_view (g.H.Host.id_of (g.H.Host.fixed c.args.host)) (g.H.Host.by_args (g.H.Host.fixed c.args.host)) g.H.Host.answer g.H.Host.after (g.H.Host.fixed c.args.host) (g.H.Host.state c.args.host) in
    let command = command_by c.args.command.now in
    let r = c.in-Ok.ensures in
    let e = ending_of command c.check.new.names c.in-Err-check.refusal in
    let refused = subst (λ (l : List (Vec ℕ Global)). RefusedBy e (CheckRefused command h (texts l))) c.as_slice.ensures.value c.in-Err-check.ensures.refusal in
    check_came command h (g.W.World.told c.args.world.now) (g.W.World.told c.read_inputs.new.world) (inputs_by c.in-Ok.inputs) r.found r.rest e refused

pub returns-in-Ok-run_model-clause-done : goal.returns-in-Ok-run_model-clause-done
returns-in-Ok-run_model-clause-done g c =
    let h = host_view (g.H.Host.id_of (g.H.Host.fixed c.args.host)) (g.H.Host.by_args (g.H.Host.fixed c.args.host)) g.H.Host.answer g.H.Host.after (g.H.Host.fixed c.args.host) (g.H.Host.state c.args.host) in
    let command = command_by c.args.command.now in
    let r = c.in-Ok.ensures in
    let checked = subst (λ (l : List (Vec ℕ Global)). IsChecked command h (texts l) c.in-Ok-check.built) c.as_slice.ensures.value c.in-Ok-check.ensures.checked in
    run_finished command h (g.W.World.told c.args.world.now) (g.W.World.told c.read_inputs.new.world) (inputs_by c.in-Ok.inputs) r.found r.rest c.in-Ok-check.built checked (g.W.World.told c.run_model.new.world) c.in-Ok-run_model.ensures.done

pub returns-clause-came : goal.returns-clause-came
returns-clause-came g c =
    let h = host_view (g.H.Host.id_of (g.H.Host.fixed c.args.host)) (g.H.Host.by_args (g.H.Host.fixed c.args.host)) g.H.Host.answer g.H.Host.after (g.H.Host.fixed c.args.host) (g.H.Host.state c.args.host) in
    let command = command_by c.args.command.now in
    let r = c.in-Ok.ensures in
    let names = c.check.new.names in
    let checked = subst (λ (l : List (Vec ℕ Global)). IsChecked command h (texts l) c.in-Ok-check.built) c.as_slice.ensures.value c.in-Ok-check.ensures.checked in
    run_came command h (g.W.World.told c.args.world.now) (g.W.World.told c.read_inputs.new.world) (inputs_by c.in-Ok.inputs) r.found r.rest c.in-Ok-check.built checked (g.W.World.told c.run_model.new.world)
    (ending_of command names c.in-Err-run_model.refusal) (c.in-Err-run_model.ensures.came (names_of command) names)

pub run_model-requires-clause-calls : goal.run_model-requires-clause-calls
run_model-requires-clause-calls g c = λ lifetimes outlive. still_creatable Calls (g.W.World.told c.args.world.now) (g.W.World.told c.read_inputs.new.world) c.in-Ok.ensures.rest c.requires.calls

pub run_model-requires-clause-vcd : goal.run_model-requires-clause-vcd
run_model-requires-clause-vcd g c = λ lifetimes outlive. still_creatable Vcd (g.W.World.told c.args.world.now) (g.W.World.told c.read_inputs.new.world) c.in-Ok.ensures.rest c.requires.vcd
