use Rattle.parse_expr.specs.ParsedLaws.{token_at, ◌and◌}
use Rattle.sv_tree.specs.declared.symbol.Symbol.TheVariants as symbol
use Rattle.parse_stmt.specs.BodyLaws.{option_at}
use Rattle.parse_stmt.proofs.heads.item_loop.Goals as goal

pub returns-clause-reads : goal.returns-clause-reads
returns-clause-reads c =
    rw c.headed.ensures
    (token_at c.requires.deep c.in_ok-word.ensures.token and token_at c.requires.deep c.in_ok-open.ensures.token
    and option_at symbol.Genvar c.take_if-kind.result c.requires.deep c.in_ok-open.ensures.token.takes.within c.take_if-kind.ensures and c.in_ok-rest.ensures.reads)
