use Rattle.std.proofs.Common.{◌≡◌, ◌++◌, ◌∷◌, map, length}
use Rattle.vcd_out.specs.declared.layout.Line.TheVariants.{Opens}
use Rattle.vcd_out.specs.Places.{places_from}
use Rattle.vcd_out.specs.Layout.{declared_line}
use Rattle.vcd_out.proofs.Places.{IsBelow, chain}
use Rattle.vcd_out.proofs.layout.enter.Given as goal

abbrev pub invariant-vars : goal.invariant-vars
invariant-vars l = record {
  written : l.lines.items ++ map declared_line (chain l.vars.keys.items l.next) ≡ l.fn.lines.items ++ Opens l.scope ∷ map declared_line (places_from 0 l.vars.keys.items l.scope);
  known : IsBelow (length l.vars.keys.items) l.next;
}

abbrev pub decreases-vars : goal.decreases-vars
decreases-vars l = length (chain l.vars.keys.items l.next)
