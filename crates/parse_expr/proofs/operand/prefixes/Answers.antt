use Rattle.std.proofs.Common.{sym, ap, ◌∙◌}
use Rattle.sv_tree.specs.Symbol.{is_prefix}
use Rattle.parse_expr.proofs.Rules.{rule_prefixes}
use Rattle.parse_expr.proofs.operand.prefixes.Goals as goal

pub operators-preserved : goal.operators-preserved
operators-preserved c =
    rw c.in_ok-push.ensures.more (rule_prefixes _ _ c.requires.deep c.operators.invariant (sym (ap is_prefix c.peek.ensures) ∙ sym c.operators-test.ensures) c.in_ok-operator.ensures.token)
