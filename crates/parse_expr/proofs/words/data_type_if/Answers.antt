use Rattle.sv_tree.specs.TreeWords.{data_type}
use Rattle.parse_expr.specs.ParsedLaws.{absent, present}
use Rattle.parse_expr.proofs.words.data_type_if.Goals as goal

pub returns-then-not-begins_type-clause-reads : goal.returns-then-not-begins_type-clause-reads
returns-then-not-begins_type-clause-reads c = absent data_type c.requires.within

pub returns-clause-reads : goal.returns-clause-reads
returns-clause-reads c = present data_type c.in_ok-kind.kind c.in_ok-kind.ensures.reads
