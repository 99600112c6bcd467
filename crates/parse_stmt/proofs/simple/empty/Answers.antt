use Rattle.parse_stmt.proofs.Rules.{empty_stmt}
use Rattle.parse_stmt.proofs.simple.empty.Goals as goal

pub returns-clause-reads : goal.returns-clause-reads
returns-clause-reads c = empty_stmt c.requires.deep c.in_ok-semicolon.ensures.token
