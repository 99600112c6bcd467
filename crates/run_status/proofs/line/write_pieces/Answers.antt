use Rattle.std.proofs.Common.{arith}
use Rattle.run_status.specs.WrittenLaws.{cut_pieces}
use Rattle.run_status.proofs.line.write_pieces.Goals as goal

pub returns-in-Err-clause-err : goal.returns-in-Err-clause-err
returns-in-Err-clause-err g c =
    cut_pieces c.args.stream c.args.pieces.now c.loop-piece.piece-index c.in-Err.field-0 _ (g.W.World.told c.args.world.now) (g.W.World.told c.loop-piece.world) (g.W.World.told c.write_all.new.world) (omega arith) c.loop-piece.invariant.written c.in-Err.ensures.err.1
