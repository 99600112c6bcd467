use Rattle.std.proofs.Common.{◌≡◌, ◌++◌, ◌+◌, ◌*◌, ◌^◌, ◌≤◌, true, length}
use Rattle.std.specs.List.{list_all}
use Rattle.rtl_pieces.specs.Near.{is_near}
use Rattle.rtl_pieces.specs.Line.{var_items, end_of}
use Rattle.rtl_pieces.proofs.line.add_vars.Given as goal

abbrev pub invariant-loop-rest : goal.invariant-loop-rest
invariant-loop-rest l =
    (l.items ++ var_items l.first l.rest ≡ l.initial.items ++ var_items 0 l.vars)
    × (end_of l.first (var_items l.first l.rest) ≡ end_of 0 (var_items 0 l.vars))
    × (list_all is_near l.items ≡ true)
    × (l.first + 2 ^ 32 * length l.rest ≤ 2 ^ 32 * length l.vars)

abbrev pub decreases-loop-rest : goal.decreases-loop-rest
decreases-loop-rest l = length l.rest
