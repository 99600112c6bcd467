use Rattle.std.proofs.Common.{◌≡◌, length}
use Rattle.plain_runner.proofs.open.nothing_fired.Given as goal

abbrev pub invariant-loop-n : goal.invariant-loop-n
invariant-loop-n l = length l.out.items ≡ l.n
