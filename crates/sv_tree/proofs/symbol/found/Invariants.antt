use Rattle.std.proofs.Common.{◌≡◌, length, map}
use Rattle.sv_tree.specs.Spelling.{found}
use Rattle.sv_tree.proofs.symbol.found.Given as goal

abbrev pub invariant-loop-table : goal.invariant-loop-table
invariant-loop-table l = found (map (λ x. (x.0.now, x.1)) l.table) l.text ≡ found (map (λ x. (x.0.now, x.1)) l.initial.table) l.text

abbrev pub decreases-loop-table : goal.decreases-loop-table
decreases-loop-table l = length l.table
