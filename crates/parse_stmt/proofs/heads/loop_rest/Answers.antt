use Rattle.parse_expr.specs.ParsedLaws.{token_at, ◌and◌}
use Rattle.parse_stmt.proofs.heads.loop_rest.Goals as goal

pub returns-clause-reads : goal.returns-clause-reads
returns-clause-reads c =
    c.in_ok-start.ensures.reads and token_at c.requires.deep c.in_ok-first.ensures.token and c.in_ok-test.ensures.reads
    and token_at c.requires.deep c.in_ok-second.ensures.token and c.in_ok-step.ensures.reads and token_at c.requires.deep c.in_ok-close.ensures.token
