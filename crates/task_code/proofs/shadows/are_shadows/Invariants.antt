use Rattle.std.proofs.Common.{◌≡◌, ◌<◌, ◌≤◌, ℕ, true}
use Rattle.task_code.specs.Compiled.{is_shadow}
use Rattle.task_code.proofs.shadows.are_shadows.Given as goal

abbrev pub invariant-loop-number : goal.invariant-loop-number
invariant-loop-number l = (k : ℕ) → l.first ≤ k → k < l.number → is_shadow l.words k ≡ true
