use Rattle.std.proofs.Common.{◌≡◌, map, take}
use Rattle.model_build.specs.Settle.{cost_of}
use Rattle.model_build.proofs.settle.costs_of.Given as goal

abbrev pub invariant-loop-proc : goal.invariant-loop-proc
invariant-loop-proc l = l.costs ≡ map (cost_of l.procs) (take l.proc-index l.combs)
