use Rattle.std.proofs.Common.{sym}
use Rattle.parse_expr.proofs.Lexemes.{peeked, ended}
use Rattle.parse_expr.proofs.source.Source.peek.Goals as goal

pub returns-in-Some : goal.returns-in-Some
returns-in-Some c = rw (← c.self.view_is) (peeked _ _ _ _ c.self.invariant (rw c.as_slice.ensures.value at (sym c.in-Some.ensures)))

pub returns-in-None : goal.returns-in-None
returns-in-None c =
    rw (← c.self.view_is) (ended c.self.inside.names.now c.self.inside.lexemes.items c.args.at (rw c.as_slice.ensures.value at (sym c.in-None.ensures)))
