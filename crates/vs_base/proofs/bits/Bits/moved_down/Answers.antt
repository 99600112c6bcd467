use Rattle.std.proofs.Common.{◌/◌, ◌^◌, ap, ◌∙◌}
use Rattle.vs_base.specs.Number.{Number, kept}
use Rattle.vs_base.proofs.OperatorLemmas.{kept_down_is_lost}
use Rattle.vs_base.proofs.bits.Bits.moved_down.Goals as goal

pub returns-then-count-ge128 : goal.returns-then-count-ge128
returns-then-count-ge128 c =
    c.new.ensures ∙ kept_down_is_lost c.self.inside.width c.self.inside.value c.count.inside.value c.self.invariant.fits c.self.invariant.most c.if-count-ge128.true
    ∙ ap (λ (n : Number). kept n.width (n.value / 2 ^ c.count.inside.value)) c.self.view_is
    ∙ ap (λ (n : Number). kept c.args.self.width (c.args.self.value / 2 ^ n.value)) c.count.view_is
