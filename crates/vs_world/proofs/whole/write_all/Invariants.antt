use Rattle.std.proofs.Common.{◌≡◌, ◌≤◌, ◌-◌, length, take}
use Rattle.std.specs.Option.{option_map}
use Rattle.vs_world.specs.Outside.{appended, OnlyWrites}
use Rattle.vs_world.proofs.whole.write_all.Given as goal

abbrev pub invariant-pieces : goal.invariant-pieces
invariant-pieces g l = record {
  unmoved : l.at ≡ 0 → l.world ≡ l.initial.world;
  within : l.at ≤ length l.bytes;
  written : (g.W.World.told l.world).written ≡ option_map (appended l.stream (take l.at l.bytes)) (g.W.World.told l.initial.world).written;
  rest : OnlyWrites (g.W.World.told l.initial.world) (g.W.World.told l.world);
}

abbrev pub decreases-pieces : goal.decreases-pieces
decreases-pieces g l = length l.bytes - l.at
