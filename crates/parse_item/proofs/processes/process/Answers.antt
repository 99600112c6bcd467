use Rattle.parse_item.proofs.Rules.{process_item}
use Rattle.parse_item.proofs.processes.process.Goals as goal

pub returns-clause-reads : goal.returns-clause-reads
returns-clause-reads c =
    rw c.process_of.ensures (process_item c.in_ok-head.head c.in_ok-body.body c.in_ok-head.ensures.reads c.in_ok-head.ensures.first c.in_ok-body.ensures.reads)
