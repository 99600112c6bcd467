use Rattle.std.proofs.Common.{refl, arith}
use Rattle.parse_expr.specs.ParsedLaws.{token_at, ◌and◌, deep}
use Rattle.parse_stmt.specs.BodyLaws.{takes_forward}
use Rattle.sv_parse.proofs.modules.module.Goals as goal

pub returns-clause-reads : goal.returns-clause-reads
returns-clause-reads c =
    rw c.whole.ensures
    (deep refl (token_at c.in_ok-word.ensures.deep c.in_ok-word.ensures.token and token_at c.in_ok-word.ensures.deep c.in_ok-name.ensures.token
    and c.in_ok-parameters.ensures.reads and c.in_ok-rest.ensures.reads))

pub returns-clause-forward : goal.returns-clause-forward
returns-clause-forward c =
    omega (arith, takes_forward c.in_ok-word.ensures.token.takes, c.in_ok-name.ensures.token.takes.forward, c.in_ok-parameters.ensures.reads.forward, c.in_ok-rest.ensures.reads.forward)
