use Rattle.parse_expr.specs.ParsedLaws.{token_at, ◌and◌}
use Rattle.parse_item.proofs.headers.port.Goals as goal

pub returns-clause-reads : goal.returns-clause-reads
returns-clause-reads c = λ start before. before and c.in_ok-kind.ensures.reads and token_at c.requires.deep c.in_ok-name.ensures.token
