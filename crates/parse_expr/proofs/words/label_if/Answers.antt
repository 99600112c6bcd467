use Rattle.sv_tree.specs.TreeWords.{label}
use Rattle.parse_expr.specs.ParsedLaws.{absent, present}
use Rattle.parse_expr.proofs.words.label_if.Goals as goal

pub returns-then-not-sees-clause-reads : goal.returns-then-not-sees-clause-reads
returns-then-not-sees-clause-reads c = absent label c.requires.within

pub returns-clause-reads : goal.returns-clause-reads
returns-clause-reads c = present label c.in_ok-label.label c.in_ok-label.ensures.reads
