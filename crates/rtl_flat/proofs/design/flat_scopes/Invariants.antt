use Rattle.std.proofs.Common.{◌≡◌, map, take}
use Rattle.rtl_flat.specs.Laid.{flat_scope_of}
use Rattle.rtl_flat.proofs.design.flat_scopes.Given as goal

abbrev pub invariant-loop-scope : goal.invariant-loop-scope
invariant-loop-scope l = l.all ≡ map flat_scope_of (take l.scope-index l.scopes)
