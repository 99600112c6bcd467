use Rattle.std.proofs.Common.{◌≡◌, ◌<◌, ℕ, false}
use Rattle.task_code.specs.Compiled.{is_shadow}
use Rattle.task_code.proofs.shadows.others.Given as goal

abbrev pub invariant-loop-number : goal.invariant-loop-number
invariant-loop-number l = (k : ℕ) → k < l.number → is_shadow l.words k ≡ false
