use Rattle.std.proofs.Common.{◌+◌, ◌-◌, length, map}
use Rattle.sv_tree.specs.declared.symbol.Symbol.TheVariants as symbol
use Rattle.sv_tree.specs.TreeRead.{token, ◌then◌, all_of}
use Rattle.sv_tree.specs.TreeStmt.{lvalue_read, lvalue_step_read}
use Rattle.parse_expr.specs.Parsed.{Parsed}
use Rattle.parse_expr.proofs.target.+lvalue.Given as goal

abbrev pub decreases-lvalue : goal.decreases-lvalue
decreases-lvalue l = 200 - l.depth

abbrev pub invariant-commas : goal.invariant-commas
invariant-commas l = record {
  first : Parsed l.source (l.depth + 1) l.fn.at l.initial.at (token symbol.BraceOpen l.opening then lvalue_read l.first);
  more : Parsed l.source (l.depth + 1) l.initial.at l.at (all_of (map lvalue_step_read l.more));
}

abbrev pub decreases-commas : goal.decreases-commas
decreases-commas l = length l.source.tokens - l.at
