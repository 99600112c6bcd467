use Rattle.parse_expr.proofs.Lexemes.{named_at, known_more, tokens_more}
use Rattle.parse_expr.proofs.source.Source.new.Goals as goal

pub symbol_of-symbol-requires : goal.symbol_of-symbol-requires
symbol_of-symbol-requires c = named_at _ _ _ _ c.requires c.loop-token-test.true

pub loop-token-preserved : goal.loop-token-preserved
loop-token-preserved c =
    rw c.in-Ok.ensures.items (record {
      tokens = tokens_more _ _ _ _ _ c.loop-token-test.true c.loop-token.invariant.tokens;
      known = known_more _ _ _ c.loop-token.invariant.known c.symbol_of-symbol.ensures;
    })
