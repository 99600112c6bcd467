use Rattle.std.proofs.Common.{◌≡◌, take}
use Rattle.order_levels.specs.Serial.{settle_nodes}
use Rattle.order_levels.proofs.serial.settle_part.Given as goal

abbrev pub invariant-loop-k : goal.invariant-loop-k
invariant-loop-k l = l.nodes.items ≡ settle_nodes l.combs (take l.k-index l.order)
