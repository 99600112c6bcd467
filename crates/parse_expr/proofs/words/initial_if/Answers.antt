use Rattle.sv_tree.specs.TreeItem.{initial}
use Rattle.parse_expr.specs.ParsedLaws.{absent, present}
use Rattle.parse_expr.proofs.words.initial_if.Goals as goal

pub returns-then-not-sees-clause-reads : goal.returns-then-not-sees-clause-reads
returns-then-not-sees-clause-reads c = absent initial c.requires.within

pub returns-clause-reads : goal.returns-clause-reads
returns-clause-reads c = present initial c.in_ok-initial.initial c.in_ok-initial.ensures.reads
