use Rattle.std.proofs.Common.{ap, ◌∙◌}
use Rattle.vs_base.specs.Number.{Number, added}
use Rattle.vs_base.proofs.NumberLemmas.{kept-word_sum}
use Rattle.vs_base.proofs.bits.Bits.add.Goals as goal

pub returns : goal.returns
returns c =
    c.new.ensures ∙ kept-word_sum c.self.inside.width c.self.inside.value c.right.inside.value c.self.invariant.most
    ∙ ap (λ (n : Number). added (record { width = c.self.inside.width; value = c.self.inside.value }) n) c.right.view_is
    ∙ ap (λ (n : Number). added n c.args.right) c.self.view_is
