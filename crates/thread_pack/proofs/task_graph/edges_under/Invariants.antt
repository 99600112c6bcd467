use Rattle.std.proofs.Common.{◌≡◌, get_or, take}
use Rattle.plan_graph.specs.Groupings.{image}
use Rattle.thread_pack.proofs.task_graph.edges_under.Given as goal

abbrev pub invariant-loop-e : goal.invariant-loop-e
invariant-loop-e l = l.list.items ≡ image (λ k. get_or l.numbers k 0) (take l.e-index l.edges)
