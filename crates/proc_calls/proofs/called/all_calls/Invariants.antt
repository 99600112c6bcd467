use Rattle.std.proofs.Common.{◌≡◌, take}
use Rattle.proc_calls.specs.Calls.{all_calls}
use Rattle.proc_calls.proofs.called.all_calls.Given as goal

abbrev pub invariant-loop-process : goal.invariant-loop-process
invariant-loop-process l = l.calls.items ≡ all_calls (take l.process-index l.procs)
