use Rattle.std.proofs.Common.{arith}
use Rattle.parse_stmt.specs.BodyLaws.{takes_forward}
use Rattle.parse_stmt.proofs.edges.named_word.Goals as goal

pub returns-clause-forward : goal.returns-clause-forward
returns-clause-forward c = omega (arith, takes_forward c.in_ok-word.ensures.token.takes, c.in_ok-label.ensures.reads.forward)
