use Rattle.std.proofs.Common.{◌*◌, ◌^◌, ap, ◌∙◌}
use Rattle.vs_base.specs.Number.{Number}
use Rattle.vs_base.specs.NumberLaws.{kept-kept}
use Rattle.vs_base.specs.Operators.{shifted_left}
use Rattle.vs_base.proofs.OperatorLemmas.{kept_up_is_lost}
use Rattle.vs_base.proofs.bits.Bits.shift_left.Goals as goal

pub returns-then-count-ge128 : goal.returns-then-count-ge128
returns-then-count-ge128 c =
    c.new.ensures ∙ kept_up_is_lost c.self.inside.width c.self.inside.value c.count.inside.value c.self.invariant.most c.if-count-ge128.true
    ∙ ap (λ (n : Number). shifted_left n c.count.inside.value) c.self.view_is
    ∙ ap (λ (n : Number). shifted_left c.args.self n.value) c.count.view_is

pub returns : goal.returns
returns c =
    c.new-2.ensures ∙ kept-kept 128 c.self.inside.width (c.self.inside.value * 2 ^ c.count.inside.value) c.self.invariant.most
    ∙ ap (λ (n : Number). shifted_left n c.count.inside.value) c.self.view_is
    ∙ ap (λ (n : Number). shifted_left c.args.self n.value) c.count.view_is
