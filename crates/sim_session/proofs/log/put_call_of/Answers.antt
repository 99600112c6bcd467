use Rattle.std.proofs.Common.{arith}
use Rattle.sim_session.proofs.Rooming.{call_is_within}
use Rattle.sim_session.proofs.log.put_call_of.Goals as goal

pub put_call-requires : goal.put_call-requires
put_call-requires c = let most = call_is_within c.args.imports.now _ _ c.at.ensures in let room = c.requires in omega (arith, most, room)

pub returns-clause-room : goal.returns-clause-room
returns-clause-room c = let most = call_is_within c.args.imports.now _ _ c.at.ensures in let taken = c.put_call.ensures.room in omega (arith, most, taken)
