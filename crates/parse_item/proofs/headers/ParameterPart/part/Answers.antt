use Rattle.sv_tree.specs.declared.symbol.Symbol.TheVariants as symbol
use Rattle.parse_expr.specs.ParsedLaws.{◌and◌}
use Rattle.parse_stmt.specs.BodyLaws.{option_at}
use Rattle.parse_item.proofs.headers.ParameterPart.part.Goals as goal

pub returns-clause-reads : goal.returns-clause-reads
returns-clause-reads c =
    option_at symbol.Parameter c.take_if-word.result c.requires.deep c.requires.within c.take_if-word.ensures and c.in_ok-kind.ensures.reads
    and c.in_ok-setting.ensures.reads
