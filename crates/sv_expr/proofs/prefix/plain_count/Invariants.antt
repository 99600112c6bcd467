use Rattle.std.proofs.Common.{◌≡◌, ◌+◌, length}
use Rattle.sv_tree.specs.Spelling.{symbol_of}
use Rattle.sv_expr.specs.Walk.{plain_count}
use Rattle.sv_expr.proofs.prefix.plain_count.Given as goal

abbrev pub invariant-loop-rest : goal.invariant-loop-rest
invariant-loop-rest l = (l.count + plain_count (symbol_of l.names) l.rest ≡ plain_count (symbol_of l.names) l.marks) × (l.count + length l.rest ≡ length l.marks)

abbrev pub decreases-loop-rest : goal.decreases-loop-rest
decreases-loop-rest l = length l.rest
