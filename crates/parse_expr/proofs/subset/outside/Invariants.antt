use Rattle.std.proofs.Common.{◌≡◌, ◌<◌, ℕ, false}
use Rattle.parse_expr.specs.Outside.{outside_at}
use Rattle.parse_expr.proofs.subset.outside.Given as goal

abbrev pub invariant-loop-at : goal.invariant-loop-at
invariant-loop-at l = (j : ℕ) → j < l.at → outside_at l.names l.tokens j ≡ false
