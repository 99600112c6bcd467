use Rattle.std.proofs.Common.{◌≡◌, replicate}
use Rattle.run_tables.proofs.list.filled.Given as goal

abbrev pub invariant-loop-n : goal.invariant-loop-n
invariant-loop-n g l = l.list.items ≡ replicate l.n l.item
