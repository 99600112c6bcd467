use Rattle.std.proofs.Common.{◌≡◌, map, take}
use Rattle.plan_types.specs.Coded.{code_number}
use Rattle.run_tables.proofs.codes.node_codes.Given as goal

abbrev pub invariant-loop-node : goal.invariant-loop-node
invariant-loop-node l = l.out.items ≡ map (code_number l.procs) (take l.node-index l.nodes)
