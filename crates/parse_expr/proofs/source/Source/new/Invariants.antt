use Rattle.std.proofs.Common.{◌≡◌, map, take}
use Rattle.parse_expr.specs.Lexemes.{AreSymbols}
use Rattle.parse_expr.proofs.source.Source.new.Given as goal

abbrev pub invariant-loop-token : goal.invariant-loop-token
invariant-loop-token l = record {
  tokens : map (λ x. x.token) l.lexemes.items ≡ take l.token-index l.tokens;
  known : AreSymbols l.names l.lexemes.items;
}
