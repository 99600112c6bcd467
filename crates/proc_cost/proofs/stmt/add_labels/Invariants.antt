use Rattle.std.proofs.Common.{◌≡◌, take}
use Rattle.std.specs.List.{sum_by}
use Rattle.proc_cost.specs.Costs.{onto, label_cost}
use Rattle.proc_cost.proofs.stmt.add_labels.Given as goal

abbrev pub invariant-loop-label : goal.invariant-loop-label
invariant-loop-label l = l.cost ≡ onto l.so_far (sum_by label_cost (take l.label-index l.labels))
