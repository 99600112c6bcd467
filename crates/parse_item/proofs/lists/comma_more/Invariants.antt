use Rattle.std.proofs.Common.{◌-◌, length}
use Rattle.sv_tree.specs.declared.symbol.Symbol.TheVariants as symbol
use Rattle.sv_tree.specs.Symbol.{same}
use Rattle.sv_tree.specs.TreeRead.{each, joined}
use Rattle.parse_expr.specs.Parsed.{Parsed}
use Rattle.parse_item.proofs.lists.comma_more.Given as goal

abbrev pub invariant-commas : goal.invariant-commas
invariant-commas g l = record {
  reads : Parsed l.source l.depth l.initial.at l.at (each (joined (same symbol.Comma) g.T.Part.reads) l.more);
}

abbrev pub decreases-commas : goal.decreases-commas
decreases-commas g l = length l.source.tokens - l.at
