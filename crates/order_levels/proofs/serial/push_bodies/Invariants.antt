use Rattle.std.proofs.Common.{◌≡◌, ◌++◌, map, take}
use Rattle.plan_graph.specs.declared.node.Node.TheVariants.{Body}
use Rattle.order_levels.proofs.serial.push_bodies.Given as goal

abbrev pub invariant-loop-p : goal.invariant-loop-p
invariant-loop-p l = l.nodes.items ≡ l.initial.nodes.items ++ map (λ p. Body p) (take l.p-index l.procs)
