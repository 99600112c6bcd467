use Rattle.std.proofs.Common.{◌≡◌, ◌++◌, ◌+◌, ◌*◌, ◌^◌, ◌≤◌, true, length}
use Rattle.std.specs.List.{list_all}
use Rattle.rtl_pieces.specs.Near.{is_near}
use Rattle.rtl_pieces.specs.Line.{mem_items, end_of}
use Rattle.rtl_pieces.proofs.line.add_mems.Given as goal

abbrev pub invariant-loop-rest : goal.invariant-loop-rest
invariant-loop-rest l =
    (l.items ++ mem_items l.first l.rest ≡ l.initial.items ++ mem_items l.start l.mems)
    × (end_of l.first (mem_items l.first l.rest) ≡ end_of l.start (mem_items l.start l.mems))
    × (list_all is_near l.items ≡ true)
    × (l.first + 2 ^ 64 * length l.rest ≤ l.start + 2 ^ 64 * length l.mems)

abbrev pub decreases-loop-rest : goal.decreases-loop-rest
decreases-loop-rest l = length l.rest
