use Rattle.std.proofs.Common.{◌≡◌, cond, take}
use Rattle.order_levels.specs.Serial.{comb_procs, clocked_procs}
use Rattle.order_levels.proofs.serial.numbers_of.Given as goal

abbrev pub invariant-loop-i : goal.invariant-loop-i
invariant-loop-i l = l.numbers.items ≡ cond l.kind (clocked_procs (take l.i l.clocked)) (comb_procs (take l.i l.clocked))
