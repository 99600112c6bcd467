use Rattle.std.proofs.Common.{◌≡◌, ◌++◌, take}
use Rattle.std.specs.List.{flat_map}
use Rattle.proc_calls.specs.Calls.{target_calls}
use Rattle.proc_calls.proofs.stmt.add_targets.Given as goal

abbrev pub invariant-loop-target : goal.invariant-loop-target
invariant-loop-target l = l.calls.items ≡ l.initial.calls.items ++ flat_map target_calls (take l.target-index l.targets)
