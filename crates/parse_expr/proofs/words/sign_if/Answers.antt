use Rattle.std.proofs.Common.{sym, ap, ◌∙◌}
use Rattle.sv_tree.specs.Symbol.{is_sign}
use Rattle.sv_tree.specs.TreeRead.{one_of}
use Rattle.parse_expr.specs.ParsedLaws.{absent, present, one_at}
use Rattle.parse_expr.proofs.words.sign_if.Goals as goal

pub returns-then-not-is_sign-clause-reads : goal.returns-then-not-is_sign-clause-reads
returns-then-not-is_sign-clause-reads c = absent (one_of is_sign) c.requires.within

pub returns-clause-reads : goal.returns-clause-reads
returns-clause-reads c =
    let next = ap is_sign (sym c.peek.ensures) ∙ sym c.if-not-is_sign.ensures in
    present (one_of is_sign) c.in_ok-sign.sign (one_at is_sign c.requires.deep next c.in_ok-sign.ensures.token)
