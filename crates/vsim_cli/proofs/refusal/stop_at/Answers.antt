use Rattle.std.proofs.Common.{◌<◌, ◌≤◌, ℕ, List, length, sym, subst, arith}
use Rattle.run_status.specs.Lines.{not_created}
use Rattle.run_status.specs.Answer.{Failing, EndsBy}
use Rattle.sim_session.specs.Runs.{creations}
use Rattle.vsim_cli.specs.RunLaws.{stop_created, stop_written}
use Rattle.vsim_cli.proofs.refusal.stop_at.Goals as goal

pub returns-then-pieces-created : goal.returns-then-pieces-created
returns-then-pieces-created g c =
    let t0 = g.W.World.told c.args.world.now in
    let t1 = g.W.World.told c.cannot_create.new.world in
    let texts = c.args.texts.now in
    let less : c.args.pieces < length (creations texts) = omega (arith, c.created.ensures, c.if-pieces-created.true) in
    let told = subst (λ (name : List ℕ). EndsBy c.cannot_create.result (Failing (not_created name)) t0 t1) c.file_of.ensures c.cannot_create.ensures.told in
    record { told = subst (λ (line : List ℕ). EndsBy c.cannot_create.result (Failing line) t0 t1) (sym (stop_created texts c.args.stream c.args.pieces less)) told }

pub returns : goal.returns
returns g c =
    let t0 = g.W.World.told c.args.world.now in
    let t1 = g.W.World.told c.cannot_write.new.world in
    let texts = c.args.texts.now in
    let past : length (creations texts) ≤ c.args.pieces = omega (arith, c.created.ensures, c.if-pieces-created.false) in
    record { told = subst (λ (line : List ℕ). EndsBy c.cannot_write.result (Failing line) t0 t1) (sym (stop_written texts c.args.stream c.args.pieces past)) c.cannot_write.ensures.told }
