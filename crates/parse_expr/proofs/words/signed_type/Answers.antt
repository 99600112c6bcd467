use Rattle.std.proofs.Common.{sym, ap, ◌∙◌}
use Rattle.sv_tree.specs.Symbol.{is_sign}
use Rattle.parse_expr.specs.ParsedLaws.{one_at, ◌and◌}
use Rattle.parse_expr.proofs.words.signed_type.Goals as goal

pub returns-clause-reads : goal.returns-clause-reads
returns-clause-reads c =
    let next = ap is_sign (sym c.peek.ensures) ∙ sym c.if-not-is_sign.ensures in
    one_at is_sign c.requires.deep next c.in_ok-sign.ensures.token and c.in_ok-range.ensures.reads
