use Rattle.parse_stmt.proofs.Rules.{call_stmt}
use Rattle.parse_stmt.proofs.simple.call.Goals as goal

pub returns-clause-reads : goal.returns-clause-reads
returns-clause-reads c = λ start name.
    call_stmt c.in_ok-args.args c.requires.deep c.in_ok-open.ensures.deep name c.in_ok-open.ensures.token c.in_ok-args.ensures.reads
    c.in_ok-close.ensures.token c.in_ok-semicolon.ensures.token
