use Rattle.std.proofs.Common.{◌≡◌, ℕ, length, get_or, cond, take}
use Rattle.plan_graph.specs.Graphs.{is_among}
use Rattle.thread_pack.proofs.task_graph.number_all.Given as goal

abbrev pub invariant-loop-n : goal.invariant-loop-n
invariant-loop-n l = record {
  len : length l.numbers ≡ length l.fn.numbers;
  numbered : (n : ℕ) → get_or l.numbers n 0 ≡ cond (is_among n (take l.n-index l.group)) l.k (get_or l.fn.numbers n 0);
}
