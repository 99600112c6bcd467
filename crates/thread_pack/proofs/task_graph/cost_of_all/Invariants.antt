use Rattle.std.proofs.Common.{◌≡◌, ◌+◌, get_or, drop}
use Rattle.plan_graph.specs.Graphs.{cost_of_all}
use Rattle.thread_pack.proofs.task_graph.cost_of_all.Given as goal

abbrev pub invariant-loop-n : goal.invariant-loop-n
invariant-loop-n l = l.total + cost_of_all (λ k. get_or l.costs k 0) (drop l.n-index l.nodes) ≡ cost_of_all (λ k. get_or l.costs k 0) l.nodes
