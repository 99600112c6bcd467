use Rattle.std.proofs.Common.{ap, ◌∙◌, ◌*◌}
use Rattle.vs_base.specs.Number.{Number}
use Rattle.vs_base.specs.NumberLaws.{kept-kept}
use Rattle.vs_base.specs.Operators.{multiplied}
use Rattle.vs_base.proofs.bits.Bits.mul.Goals as goal

pub returns : goal.returns
returns c =
    c.new.ensures ∙ kept-kept 128 c.self.inside.width (c.self.inside.value * c.right.inside.value) c.self.invariant.most
    ∙ ap (λ (n : Number). multiplied (record { width = c.self.inside.width; value = c.self.inside.value }) n) c.right.view_is
    ∙ ap (λ (n : Number). multiplied n c.args.right) c.self.view_is
