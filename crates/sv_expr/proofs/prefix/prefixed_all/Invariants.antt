use Rattle.std.proofs.Common.{◌≡◌, ◌-◌, length, map, drop}
use Rattle.sv_tree.specs.Spelling.{symbol_of}
use Rattle.sv_expr.specs.Walk.{prefixed_all}
use Rattle.sv_expr.proofs.prefix.prefixed_all.Given as goal

abbrev pub invariant-loop-done : goal.invariant-loop-done
invariant-loop-done l = l.value ≡ prefixed_all (map (symbol_of l.names) (drop (length l.marks - l.done) l.marks)) l.fn.operand
