use Rattle.sv_tree.specs.declared.symbol.Symbol.TheVariants as symbol
use Rattle.parse_expr.specs.ParsedLaws.{◌and◌}
use Rattle.parse_stmt.specs.BodyLaws.{option_at}
use Rattle.parse_item.proofs.imports.ArgumentPart.part.Goals as goal

pub returns-clause-reads : goal.returns-clause-reads
returns-clause-reads c =
    option_at symbol.Input c.take_if-input.result c.requires.deep c.requires.within c.take_if-input.ensures
    and c.in_ok-kind.ensures.reads and option_at symbol.Name c.take_if-name.result c.requires.deep c.in_ok-kind.ensures.reads.within c.take_if-name.ensures
