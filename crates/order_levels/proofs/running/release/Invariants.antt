use Rattle.std.proofs.Common.{◌≡◌, ◌+◌, ◌==◌, ◌&&◌, ◌||◌, ℕ, get_or, take, count_by, vec_len}
use Rattle.plan_graph.specs.Graphs.{is_among}
use Rattle.node_sets.specs.Sets.{is_member}
use Rattle.order_levels.proofs.running.release.Given as goal

abbrev pub invariant-loop-t : goal.invariant-loop-t
invariant-loop-t l = record {
  counts : (m : ℕ) → get_or l.waits m 0 + count_by (λ t. t == m) (take l.t-index l.targets) ≡ get_or l.fn.waits m 0;
  members : (m : ℕ) → is_member l.ready.words.items m ≡ (is_member l.fn.ready.words.items m || (is_among m (take l.t-index l.targets) && (get_or l.waits m 0 == 0)));
  room : vec_len l.ready.words ≡ vec_len l.fn.ready.words;
}
