use Rattle.std.proofs.Common.{◌-◌, length}
use Rattle.sv_tree.specs.Tree.{read_description}
use Rattle.sv_tree.specs.TreeRead.{each}
use Rattle.parse_expr.specs.Parsed.{Parsed}
use Rattle.sv_parse.proofs.sources.source_tree.Given as goal

abbrev pub invariant-descriptions : goal.invariant-descriptions
invariant-descriptions l = record {
  reads : Parsed l.source 0 0 l.at (each read_description l.descriptions);
}

abbrev pub decreases-descriptions : goal.decreases-descriptions
decreases-descriptions l = length l.source.tokens - l.at
