use Rattle.std.proofs.Common.{◌≡◌, take}
use Rattle.vcd_out.specs.Places.{owners_of}
use Rattle.vcd_out.proofs.layout.owners.Given as goal

abbrev pub invariant-loop-var : goal.invariant-loop-var
invariant-loop-var l = l.owners.items ≡ owners_of (take l.var-index l.vars)
