-- What a fault tells of settling.
use Rattle.std.specs.Prelude.{◌≡◌, List}
use Rattle.plan_graph.specs.declared.node.Edge.{Edge}
use Rattle.order_levels.specs.declared.fault.LoopFault.{LoopFault}
use Rattle.order_levels.specs.declared.fault.LoopFault.TheVariants.{NoMemory, Loop}
use Rattle.order_levels.specs.Settling.{Settling, Stalls}
use Rattle.order_levels.specs.SettlingLaws.{GoesRound}

-- the loop is that of the stall; want of memory tells nothing
abbrev pub TellsStall : LoopFault → Settling → Type 0
TellsStall NoMemory s = Unit {0}
TellsStall (Loop list) s = s ≡ Stalls list.items

-- the nodes of the loop wait for each other
abbrev pub TellsLoop : LoopFault → List Edge → Type 0
TellsLoop NoMemory edges = Unit {0}
TellsLoop (Loop list) edges = GoesRound edges list.items
