use Rattle.std.proofs.Common.{refl}
use Rattle.parse_expr.specs.ParsedLaws.{token_at, ◌and◌, deep}
use Rattle.parse_expr.proofs.words.range.Goals as goal

pub returns-clause-reads : goal.returns-clause-reads
returns-clause-reads c =
    let within = c.in_ok-opening.ensures.deep in
    deep refl (
    token_at within c.in_ok-opening.ensures.token and c.in_ok-left.ensures.reads and token_at within c.in_ok-colon.ensures.token
    and c.in_ok-right.ensures.reads and token_at within c.in_ok-close.ensures.token)
