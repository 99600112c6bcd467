use Rattle.std.proofs.Common.{◌≡◌, ◌-◌, ◌<◌, ℕ, suc, true, [], Some, length, get_or}
use Rattle.std.specs.Option.{IfSome}
use Rattle.plan_graph.specs.Graphs.{is_among}
use Rattle.order_levels.specs.Settling.{walk_turns}
use Rattle.order_levels.specs.Sets.{holder_in}
use Rattle.order_levels.proofs.stall.walk.Given as goal

abbrev pub invariant-loop-turn : goal.invariant-loop-turn
invariant-loop-turn l = record {
  rest : walk_turns (suc (length l.sources) - l.turn) (holder_in l.sources l.has_run) l.walked.items l.next ≡ walk_turns (suc (length l.sources)) (holder_in l.sources l.has_run) [] (Some l.start);
  seen_len : length l.seen.items ≡ length l.sources;
  seen : (m : ℕ) → m < length l.sources → get_or l.seen.items m true ≡ is_among m l.walked.items;
  within : IfSome l.next (λ n. n < length l.sources);
}
