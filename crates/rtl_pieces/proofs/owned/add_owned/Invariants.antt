use Rattle.std.proofs.Common.{◌≡◌, ◌++◌, map, length}
use Rattle.rtl_pieces.specs.Owned.{of_process}
use Rattle.rtl_pieces.proofs.owned.add_owned.Given as goal

abbrev pub invariant-loop-rest : goal.invariant-loop-rest
invariant-loop-rest l = l.all.items ++ map (of_process l.proc) l.rest ≡ l.initial.all.items ++ map (of_process l.proc) l.ranges

abbrev pub decreases-loop-rest : goal.decreases-loop-rest
decreases-loop-rest l = length l.rest
