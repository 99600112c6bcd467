use Rattle.std.proofs.Common.{ℕ, ◌-◌, ap, ◌∙◌}
use Rattle.vs_base.specs.Number.{kept}
use Rattle.vs_base.specs.Operators.{inverted}
use Rattle.vs_base.proofs.OperatorLemmas.{kept_inverted}
use Rattle.vs_base.proofs.bits.Bits.bit_not.Goals as goal

pub returns : goal.returns
returns c =
    c.new.ensures ∙ ap (λ (n : ℕ). kept c.self.inside.width (n - c.self.inside.value)) c.mask.ensures
    ∙ kept_inverted c.self.inside.width c.self.inside.value ∙ ap inverted c.self.view_is
