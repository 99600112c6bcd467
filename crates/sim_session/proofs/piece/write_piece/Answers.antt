use Rattle.std.proofs.Common.{refl, arith}
use Rattle.vs_world.specs.EntryLaws.{did_write, broke_write}
use Rattle.sim_session.proofs.piece.write_piece.Goals as goal

pub returns-in-Ok-clause-wrote : goal.returns-in-Ok-clause-wrote
returns-in-Ok-clause-wrote g c =
    let e = c.in-Ok.ensures in (refl, record { did = did_write c.args.stream c.args.bytes.now _ _ e.ok e.rest; count = omega arith })

pub returns-in-Err-clause-wrote : goal.returns-in-Err-clause-wrote
returns-in-Err-clause-wrote g c =
    let e = c.in-Err.ensures in (0, omega arith, broke_write c.args.stream c.args.bytes.now c.in-Err.sent _ _ e.err.0 e.err.1 e.rest e.cause)
