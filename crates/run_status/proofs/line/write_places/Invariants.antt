use Rattle.std.proofs.Common.{◌≡◌, take}
use Rattle.std.specs.Option.{option_map}
use Rattle.vs_world.specs.Outside.{appended, OnlyWrites}
use Rattle.vs_world.specs.declared.world.Stream.TheVariants.{Errors}
use Rattle.run_status.specs.Lines.{listed_places}
use Rattle.run_status.proofs.line.write_places.Given as goal

abbrev pub invariant-loop-place : goal.invariant-loop-place
invariant-loop-place g l = record {
  written : (g.W.World.told l.world).written ≡ option_map (appended Errors (listed_places l.files (take l.place-index l.places))) (g.W.World.told l.initial.world).written;
  rest : OnlyWrites (g.W.World.told l.initial.world) (g.W.World.told l.world);
}
