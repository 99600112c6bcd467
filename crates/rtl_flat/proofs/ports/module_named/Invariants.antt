use Rattle.std.proofs.Common.{length, ◌≡◌}
use Rattle.rtl_flat.specs.Ports.{module_named}
use Rattle.rtl_flat.proofs.ports.module_named.Given as goal

abbrev pub invariant-loop-rest : goal.invariant-loop-rest
invariant-loop-rest l = module_named l.name.0 l.rest ≡ module_named l.name.0 l.descriptions

abbrev pub decreases-loop-rest : goal.decreases-loop-rest
decreases-loop-rest l = length l.rest
