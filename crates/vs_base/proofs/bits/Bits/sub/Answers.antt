use Rattle.std.proofs.Common.{ℕ, ◌≡◌, ◌<◌, ◌^◌, sym, subst, ap, ◌∙◌}
use Rattle.vs_base.specs.Number.{Number}
use Rattle.vs_base.specs.Operators.{subtracted}
use Rattle.vs_base.proofs.OperatorLemmas.{kept_difference}
use Rattle.vs_base.proofs.bits.Bits.sub.Goals as goal

pub returns : goal.returns
returns c =
    c.new.ensures ∙ kept_difference c.self.inside.width c.self.inside.value c.right.inside.value c.self.invariant.most (let e : c.self.inside.width ≡ c.right.inside.width = ap (λ (n : Number). n.width) c.self.view_is ∙ c.requires.same_width ∙ sym (ap (λ (n : Number). n.width) c.right.view_is) in subst (λ (k : ℕ). c.right.inside.value < 2 ^ k) (sym e) c.right.invariant.fits)
    ∙ ap (λ (n : Number). subtracted (record { width = c.self.inside.width; value = c.self.inside.value }) n) c.right.view_is
    ∙ ap (λ (n : Number). subtracted n c.args.right) c.self.view_is
