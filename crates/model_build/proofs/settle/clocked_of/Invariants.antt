use Rattle.std.proofs.Common.{◌≡◌, map, take}
use Rattle.plan_types.specs.Coded.{is_clocked}
use Rattle.model_build.proofs.settle.clocked_of.Given as goal

abbrev pub invariant-loop-process : goal.invariant-loop-process
invariant-loop-process l = l.marks.items ≡ map (is_clocked) (take l.process-index l.procs)
