use Rattle.std.proofs.Common.{◌-◌, length}
use Rattle.sv_tree.specs.Symbol.{is_prefix}
use Rattle.sv_tree.specs.TreeRead.{each, one_of}
use Rattle.parse_expr.specs.Parsed.{Parsed}
use Rattle.parse_expr.proofs.operand.prefixes.Given as goal

abbrev pub invariant-operators : goal.invariant-operators
invariant-operators l = Parsed l.source l.depth l.initial.at l.at (each (one_of is_prefix) l.operators)

abbrev pub decreases-operators : goal.decreases-operators
decreases-operators l = length l.source.tokens - l.at
