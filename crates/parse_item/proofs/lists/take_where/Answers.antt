use Rattle.std.proofs.Common.{◌∙◌, sym}
use Rattle.sv_tree.specs.TreeRead.{one_of}
use Rattle.parse_expr.specs.ParsedLaws.{one_at, absent, present}
use Rattle.parse_item.proofs.lists.take_where.Goals as goal

pub returns-then-not-wanted-clause-reads : goal.returns-then-not-wanted-clause-reads
returns-then-not-wanted-clause-reads c = λ class depth shallow is. absent (one_of class) c.requires

pub returns-clause-reads : goal.returns-clause-reads
returns-clause-reads c = λ class depth shallow is.
    present (one_of class) c.in_ok-token.token (one_at class shallow (sym is ∙ c.if-not-wanted.false) c.in_ok-token.ensures.token)
