use Rattle.sv_tree.specs.TreeWords.{range}
use Rattle.parse_expr.specs.ParsedLaws.{absent, present}
use Rattle.parse_expr.proofs.words.range_if.Goals as goal

pub returns-then-not-sees-clause-reads : goal.returns-then-not-sees-clause-reads
returns-then-not-sees-clause-reads c = absent range c.requires.within

pub returns-clause-reads : goal.returns-clause-reads
returns-clause-reads c = present range c.in_ok-range.range c.in_ok-range.ensures.reads
