use Rattle.parse_item.proofs.Rules.{genvars_item}
use Rattle.parse_item.proofs.declarations.genvars.Goals as goal

pub returns-clause-reads : goal.returns-clause-reads
returns-clause-reads c = genvars_item c.in_ok-names.names c.requires.deep c.in_ok-word.ensures.token c.in_ok-names.ensures.reads c.in_ok-semicolon.ensures.token
