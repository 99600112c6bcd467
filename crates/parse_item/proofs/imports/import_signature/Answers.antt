use Rattle.std.proofs.Common.{refl}
use Rattle.parse_expr.specs.ParsedLaws.{token_at, ◌and◌, deep}
use Rattle.parse_item.proofs.imports.import_signature.Goals as goal

pub returns-clause-reads : goal.returns-clause-reads
returns-clause-reads c =
    token_at c.requires.deep c.in_ok-function.ensures.token and c.in_ok-kind.ensures.reads and token_at c.requires.deep c.in_ok-name.ensures.token
    and deep refl (token_at c.in_ok-open.ensures.deep c.in_ok-open.ensures.token and c.in_ok-args.ensures.reads and token_at c.in_ok-open.ensures.deep c.in_ok-close.ensures.token)
    and token_at c.requires.deep c.in_ok-semicolon.ensures.token
