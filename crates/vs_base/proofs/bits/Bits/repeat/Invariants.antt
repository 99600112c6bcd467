use Rattle.std.proofs.Common.{◌≡◌}
use Rattle.vs_base.specs.Operators.{repeated}
use Rattle.vs_base.proofs.bits.Bits.repeat.Given as goal

abbrev pub invariant-loop : goal.invariant-loop
invariant-loop l = l.made ≡ repeated l.counter l.self
