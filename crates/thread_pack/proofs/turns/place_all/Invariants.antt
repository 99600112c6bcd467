use Rattle.std.proofs.Common.{◌≡◌, ◌-◌, ◌+◌, length, get_or}
use Rattle.order_levels.specs.Running.{Running}
use Rattle.thread_pack.specs.Packing.{order_of, pack_turns, packed}
use Rattle.thread_pack.specs.Tables.{Holds}
use Rattle.thread_pack.proofs.PackLaws.{IsPacking}
use Rattle.thread_pack.proofs.BoundLemmas.{AllEnd, load}
use Rattle.thread_pack.proofs.turns.place_all.Given as goal

abbrev pub invariant-loop-turn : goal.invariant-loop-turn
invariant-loop-turn l = record {
  running : Running l.tasks l.graph.edges.items (order_of l.puts.items) l.turns.targets.items l.turns.waits.items l.turns.ready.words.items;
  holds : Holds l.tasks l.threads l.graph.edges.items (λ k. get_or l.graph.costs.items k 0) l.puts.items l.table.free.items l.table.arrive.items;
  packing : IsPacking l.tasks l.threads l.graph.edges.items l.puts.items;
  ends : AllEnd (λ k. get_or l.graph.costs.items k 0) (load (λ k. get_or l.graph.costs.items k 0) l.puts.items + load (λ k. get_or l.graph.costs.items k 0) l.puts.items) l.puts.items;
  rest : pack_turns (l.tasks - l.turn) l.tasks l.threads l.graph.edges.items (λ k. get_or l.graph.costs.items k 0) (λ k. get_or l.graph.tails.items k 0) l.puts.items
      ≡ packed l.tasks l.threads l.graph.edges.items (λ k. get_or l.graph.costs.items k 0) (λ k. get_or l.graph.tails.items k 0);
}
