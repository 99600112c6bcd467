use Rattle.std.proofs.Common.{sym, ap, ◌∙◌}
use Rattle.sv_tree.specs.Symbol.{is_fixed}
use Rattle.parse_expr.specs.ParsedLaws.{one_at, ◌and◌}
use Rattle.parse_expr.proofs.words.fixed_type.Goals as goal

pub returns-clause-reads : goal.returns-clause-reads
returns-clause-reads c =
    let next = ap is_fixed (sym c.peek.ensures) ∙ sym c.if-not-is_fixed.ensures in
    one_at is_fixed c.requires.deep next c.in_ok-word.ensures.token and c.in_ok-sign.ensures.reads
