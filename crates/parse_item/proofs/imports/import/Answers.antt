use Rattle.std.proofs.Common.{◌∙◌, ap, arith}
use Rattle.sv_tree.specs.Symbol.{is_manner}
use Rattle.parse_expr.specs.ParsedLaws.{token_at, ◌and◌}
use Rattle.parse_stmt.specs.BodyLaws.{takes_forward}
use Rattle.parse_item.proofs.imports.import.Goals as goal

pub linkage-requires-clause-within : goal.linkage-requires-clause-within
linkage-requires-clause-within c = (c.in_ok-manner.ensures.reads is_manner c.args.depth c.requires.deep (c.is_manner.ensures ∙ ap is_manner c.peek.ensures)).within

pub returns-clause-reads : goal.returns-clause-reads
returns-clause-reads c =
    token_at c.requires.deep c.in_ok-word.ensures.token and token_at c.requires.deep c.in_ok-text.ensures.token
    and c.in_ok-manner.ensures.reads is_manner c.args.depth c.requires.deep (c.is_manner.ensures ∙ ap is_manner c.peek.ensures)
    and c.in_ok-linkage.ensures.reads and c.in_ok-signature.ensures.reads

pub returns-clause-forward : goal.returns-clause-forward
returns-clause-forward c =
    omega (
      arith,
      takes_forward c.in_ok-word.ensures.token.takes,
      c.in_ok-text.ensures.token.takes.forward,
      (c.in_ok-manner.ensures.reads is_manner c.args.depth c.requires.deep (c.is_manner.ensures ∙ ap is_manner c.peek.ensures)).forward,
      c.in_ok-linkage.ensures.reads.forward,
      c.in_ok-signature.ensures.reads.forward,
    )
