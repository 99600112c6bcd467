use Rattle.rtl_flat.specs.Laid.{MemsUpTo}
use Rattle.rtl_flat.proofs.variables.put_mems.Given as goal

abbrev pub invariant-loop-held : goal.invariant-loop-held
invariant-loop-held l = MemsUpTo l.scopes l.scope l.mems
