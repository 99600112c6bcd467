use Rattle.parse_item.proofs.Rules as rules
use Rattle.parse_item.proofs.processes.clocked.Goals as goal

pub returns-clause-reads : goal.returns-clause-reads
returns-clause-reads c = λ start before. rules.clocked_head c.in_ok-events.events c.requires.deep before c.in_ok-events.ensures.reads c.in_ok-close.ensures.token
