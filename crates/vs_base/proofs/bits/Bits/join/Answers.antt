use Rattle.std.proofs.Common.{◌≡◌, ◌≤◌, ◌+◌, ap, ◌∙◌, arith}
use Rattle.vs_base.specs.Number.{Number}
use Rattle.vs_base.specs.Operators.{joined}
use Rattle.vs_base.proofs.OperatorLemmas.{joined_word}
use Rattle.vs_base.proofs.bits.Bits.join.Goals as goal

pub returns : goal.returns
returns c =
    c.new.ensures ∙ joined_word c.self.inside.width c.self.inside.value c.low.inside.width c.low.inside.value c.self.invariant.fits c.low.invariant.fits (let a : c.self.inside.width ≡ c.args.self.width = ap (λ (n : Number). n.width) c.self.view_is in let b : c.low.inside.width ≡ c.args.low.width = ap (λ (n : Number). n.width) c.low.view_is in let m : c.args.self.width + c.args.low.width ≤ 128 = c.requires.most in omega arith)
    ∙ ap (λ (n : Number). joined (record { width = c.self.inside.width; value = c.self.inside.value }) n) c.low.view_is
    ∙ ap (λ (n : Number). joined n c.args.low) c.self.view_is
