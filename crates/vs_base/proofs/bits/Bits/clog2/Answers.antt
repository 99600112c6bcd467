use Rattle.std.proofs.Common.{◌≤◌, ◌^◌, ap, ◌∙◌, subst, arith}
use Rattle.vs_base.specs.Number.{Number, kept}
use Rattle.vs_base.specs.Operators.{log_ceiling, IsCeilingLog}
use Rattle.vs_base.proofs.OperatorLemmas.{ceiling_log_is, log_of_little, below_word}
use Rattle.vs_base.proofs.bits.Bits.clog2.Goals as goal

pub returns-clause-log : goal.returns-clause-log
returns-clause-log c =
    let n : Number = record { width = c.self.inside.width; value = c.self.inside.value } in
    let within : 2 ^ c.self.inside.width ≤ 2 ^ 128 = below_word c.self.inside.width c.self.invariant.most in
    subst (λ (m : Number). IsCeilingLog m c.new-2.result.value) c.self.view_is
    (ceiling_log_is n c.new-2.result (c.new-2.ensures ∙ ap (kept 32) c.from.ensures) c.if-value-le1.false (omega arith))

pub returns-then-value-le1-clause-value : goal.returns-then-value-le1-clause-value
returns-then-value-le1-clause-value c =
    c.new.ensures ∙ log_of_little (record { width = c.self.inside.width; value = c.self.inside.value }) c.if-value-le1.true ∙ ap log_ceiling c.self.view_is
