use Rattle.parse_item.proofs.Rules.{empty_item}
use Rattle.parse_item.proofs.plain.empty.Goals as goal

pub returns-clause-reads : goal.returns-clause-reads
returns-clause-reads c = empty_item c.requires.deep c.in_ok-semicolon.ensures.token
