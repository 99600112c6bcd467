use Rattle.std.proofs.Common.{◌≡◌, ◌++◌, length}
use Rattle.vcd_out.specs.Layout.{scope_lines}
use Rattle.vcd_out.proofs.Places.{IsBelow}
use Rattle.vcd_out.proofs.Walks.{to_come}
use Rattle.vcd_out.proofs.layout.walk.Given as goal

abbrev pub invariant-walk : goal.invariant-walk
invariant-walk l = record {
  written : l.lines.items ++ to_come l.vars.keys.items l.scopes.keys.items l.scopes.first.items l.scopes.next.items l.next l.open.items ≡ scope_lines l.vars.keys.items 0 l.scopes.keys.items 0;
  known : IsBelow (length l.scopes.keys.items) l.next;
}

abbrev pub decreases-walk : goal.decreases-walk
decreases-walk l = length (to_come l.vars.keys.items l.scopes.keys.items l.scopes.first.items l.scopes.next.items l.next l.open.items)
