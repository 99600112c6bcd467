use Rattle.std.proofs.Common.{add-one, sym, refl}
use Rattle.parse_expr.proofs.Lexemes.{taken}
use Rattle.parse_expr.proofs.source.Source.take.Goals as goal

pub returns-in-Some-clause-token : goal.returns-in-Some-clause-token
returns-in-Some-clause-token c =
    rw (add-one, ← c.self.view_is) (taken _ _ _ _ c.self.invariant refl (rw c.as_slice.ensures.value at (sym c.in-Some.ensures)))
