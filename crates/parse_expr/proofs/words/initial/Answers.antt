use Rattle.parse_expr.specs.ParsedLaws.{token_at, ◌and◌}
use Rattle.parse_expr.proofs.words.initial.Goals as goal

pub returns-clause-reads : goal.returns-clause-reads
returns-clause-reads c = token_at c.requires.deep c.in_ok-mark.ensures.token and c.in_ok-value.ensures.reads
