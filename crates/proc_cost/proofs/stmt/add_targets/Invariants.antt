use Rattle.std.proofs.Common.{◌≡◌, take}
use Rattle.std.specs.List.{sum_by}
use Rattle.proc_cost.specs.Costs.{onto, target_cost}
use Rattle.proc_cost.proofs.stmt.add_targets.Given as goal

abbrev pub invariant-loop-target : goal.invariant-loop-target
invariant-loop-target l = l.cost ≡ onto l.so_far (sum_by target_cost (take l.target-index l.targets))
