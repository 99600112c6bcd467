use Rattle.parse_item.proofs.Rules as rules
use Rattle.parse_item.proofs.plain.import_item.Goals as goal

pub returns-clause-reads : goal.returns-clause-reads
returns-clause-reads c = rules.import_item c.in_ok-import.import c.in_ok-import.ensures.reads c.in_ok-import.ensures.forward
