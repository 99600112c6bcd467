use Rattle.std.proofs.Common.{◌≡◌, length, map}
use Rattle.parse_expr.specs.Outside.{has}
use Rattle.parse_expr.proofs.subset.has.Given as goal

abbrev pub invariant-loop-table : goal.invariant-loop-table
invariant-loop-table l = has (map (λ x. x.now) l.table) l.text ≡ has (map (λ x. x.now) l.initial.table) l.text

abbrev pub decreases-loop-table : goal.decreases-loop-table
decreases-loop-table l = length l.table
