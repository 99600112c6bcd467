use Rattle.std.proofs.Common.{◌≡◌, ◌-◌}
use Rattle.order_levels.specs.Settling.{run_turns, all_run}
use Rattle.order_levels.specs.Running.{Running}
use Rattle.order_levels.proofs.running.run_all.Given as goal

abbrev pub invariant-loop-turn : goal.invariant-loop-turn
invariant-loop-turn l = record {
  running : Running l.nodes l.edges l.ran.items l.turns.targets.items l.turns.waits.items l.turns.ready.words.items;
  rest : run_turns (l.nodes - l.turn) l.nodes l.edges l.ran.items ≡ all_run l.nodes l.edges;
}
