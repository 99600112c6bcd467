use Rattle.sv_tree.specs.TreeItem.{dimension}
use Rattle.parse_expr.specs.ParsedLaws.{absent, present}
use Rattle.parse_expr.proofs.words.dimension_if.Goals as goal

pub returns-then-not-sees-clause-reads : goal.returns-then-not-sees-clause-reads
returns-then-not-sees-clause-reads c = absent dimension c.requires.within

pub returns-clause-reads : goal.returns-clause-reads
returns-clause-reads c = present dimension c.in_ok-dimension.dimension c.in_ok-dimension.ensures.reads
