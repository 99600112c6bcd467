use Rattle.std.proofs.Common.{sym, ap, ◌∙◌}
use Rattle.sv_tree.specs.Symbol.{is_result, is_signable}
use Rattle.parse_expr.proofs.TypeRules.{rule_unsigned, rule_signed}
use Rattle.parse_expr.proofs.words.result_type.Goals as goal

pub returns-then-not-is_signable-clause-reads : goal.returns-then-not-is_signable-clause-reads
returns-then-not-is_signable-clause-reads c =
    let next = ap is_result (sym c.peek-symbol.ensures) ∙ sym c.if-not-is_result.ensures in
    rule_unsigned is_result c.requires.deep next c.in_ok-word.ensures.token

pub returns-clause-reads : goal.returns-clause-reads
returns-clause-reads c =
    let next = ap is_result (sym c.peek-symbol.ensures) ∙ sym c.if-not-is_result.ensures in
    let signable = ap is_signable (sym c.peek-symbol.ensures) ∙ sym c.if-not-is_signable.ensures in
    rule_signed is_result c.in_ok-sign.sign c.requires.deep next signable c.in_ok-word.ensures.token c.in_ok-sign.ensures.reads
