use Rattle.std.proofs.Common.{◌≡◌, length, take}
use Rattle.order_levels.specs.Settling.{first_below}
use Rattle.order_levels.specs.Sets.{unmarked}
use Rattle.order_levels.proofs.stall.first_holder.Given as goal

abbrev pub invariant-loop-m : goal.invariant-loop-m
invariant-loop-m l = l.least ≡ first_below (unmarked l.has_run (take l.m-index l.sources)) (length l.has_run)
