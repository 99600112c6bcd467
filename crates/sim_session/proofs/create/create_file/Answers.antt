use Rattle.std.proofs.Common.{ap, sym, ◌∙◌, Some, arith}
use Rattle.std.specs.Option.{option_copied}
use Rattle.sim_session.proofs.Creating.{created, not_created}
use Rattle.sim_session.proofs.create.create_file.Goals as goal

pub returns-in-Ok-clause-created : goal.returns-in-Ok-clause-created
returns-in-Ok-clause-created g c =
    let e = c.in-Ok.ensures in created c.args.stream _ _ _ _ (ap option_copied c.in-Some.is ∙ ap Some (sym c.as_bytes.ensures)) (omega arith) e.ok e.rest

pub returns-in-Err-clause-created : goal.returns-in-Err-clause-created
returns-in-Err-clause-created g c =
    let e = c.in-Err.ensures in not_created c.args.stream _ c.in-Some.name.now _ _ (ap option_copied c.in-Some.is) e.err e.rest e.cause
