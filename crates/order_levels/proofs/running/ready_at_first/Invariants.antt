use Rattle.std.proofs.Common.{◌≡◌, ◌≤◌, ◌*◌, ◌==◌, ◌&&◌, ℕ, nat_lt, get_or, vec_len}
use Rattle.node_sets.specs.Sets.{is_member}
use Rattle.order_levels.proofs.running.ready_at_first.Given as goal

abbrev pub invariant-loop-n : goal.invariant-loop-n
invariant-loop-n l = (l.nodes ≤ 64 * vec_len l.ready.words) × ((m : ℕ) → is_member l.ready.words.items m ≡ (nat_lt m l.n && (get_or l.waits m 0 == 0)))
