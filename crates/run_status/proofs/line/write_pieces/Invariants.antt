use Rattle.std.proofs.Common.{◌≡◌, take}
use Rattle.std.specs.Option.{option_map}
use Rattle.vs_world.specs.Outside.{appended, OnlyWrites}
use Rattle.run_status.specs.Written.{joined}
use Rattle.run_status.proofs.line.write_pieces.Given as goal

abbrev pub invariant-loop-piece : goal.invariant-loop-piece
invariant-loop-piece g l = record {
  written : (g.W.World.told l.world).written ≡ option_map (appended l.stream (joined (take l.piece-index l.pieces))) (g.W.World.told l.initial.world).written;
  rest : OnlyWrites (g.W.World.told l.initial.world) (g.W.World.told l.world);
}
