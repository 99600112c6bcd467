use Rattle.std.proofs.Common.{◌≡◌, take}
use Rattle.vcd_out.specs.Places.{outers_of}
use Rattle.vcd_out.proofs.layout.outers.Given as goal

abbrev pub invariant-loop-scope : goal.invariant-loop-scope
invariant-loop-scope l = l.outers.items ≡ outers_of (take l.scope-index l.scopes)
