use Rattle.std.proofs.Common.{◌≡◌, map, take}
use Rattle.plan_graph.specs.Graphs.{turned}
use Rattle.thread_pack.proofs.task_graph.turned.Given as goal

abbrev pub invariant-loop-e : goal.invariant-loop-e
invariant-loop-e l = l.back.items ≡ map turned (take l.e-index l.edges)
