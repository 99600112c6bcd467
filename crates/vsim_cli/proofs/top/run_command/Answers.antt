use Rattle.std.proofs.Common.{refl}
use Rattle.run_status.specs.StageLaws.{finished_ends, came_ends, leaves_none}
use Rattle.run_status.specs.Answer.{Wanting}
use Rattle.vsim_cli.specs.Case.{command_by, host_view, names_of}
use Rattle.vsim_cli.specs.Answers.{IsCommandAnswer}
use Rattle.vsim_cli.specs.CheckLaws.{some_command_answer}
use Rattle.vsim_cli.specs.Refusals.{ending_of}
use Rattle.vsim_cli.proofs.top.run_command.Goals as goal

pub returns-in_default : goal.returns-in_default
returns-in_default g c =
    let h = host_view (g.H.Host.id_of (g.H.Host.fixed c.args.host)) (g.H.Host.by_args (g.H.Host.fixed c.args.host)) g.H.Host.answer g.H.Host.after (g.H.Host.fixed c.args.host) (g.H.Host.state c.args.host) in
    let command = command_by c.args.command.now in
    let t0 = g.W.World.told c.args.world.now in
    record { table = came_ends (IsCommandAnswer command h t0.files) (names_of command) _ t0 t0 (g.W.World.told c.out_of_memory.new.world) Wanting (some_command_answer command h t0.files) (leaves_none t0) c.out_of_memory.ensures.told }

pub returns-in-Ok-stages : goal.returns-in-Ok-stages
returns-in-Ok-stages g c =
    let h = host_view (g.H.Host.id_of (g.H.Host.fixed c.args.host)) (g.H.Host.by_args (g.H.Host.fixed c.args.host)) g.H.Host.answer g.H.Host.after (g.H.Host.fixed c.args.host) (g.H.Host.state c.args.host) in
    let command = command_by c.args.command.now in
    let t0 = g.W.World.told c.args.world.now in
    record { table = finished_ends (IsCommandAnswer command h t0.files) (names_of command) _ t0 (g.W.World.told c.stages.new.world) refl c.in-Ok-stages.ensures.done }

pub returns : goal.returns
returns g c =
    let h = host_view (g.H.Host.id_of (g.H.Host.fixed c.args.host)) (g.H.Host.by_args (g.H.Host.fixed c.args.host)) g.H.Host.answer g.H.Host.after (g.H.Host.fixed c.args.host) (g.H.Host.state c.args.host) in
    let command = command_by c.args.command.now in
    let t0 = g.W.World.told c.args.world.now in
    record {
      table = came_ends (IsCommandAnswer command h t0.files) (names_of command) _ t0 (g.W.World.told c.stages.new.world) (g.W.World.told c.refuse.new.world) (ending_of command c.stages.new.names c.in-Err.refusal) (some_command_answer command h t0.files)
          c.in-Err.ensures.came c.refuse.ensures.told;
    }
