use Rattle.std.proofs.Common.{ap, ◌∙◌}
use Rattle.vs_base.specs.Operators.{negated}
use Rattle.vs_base.proofs.OperatorLemmas.{kept_negation}
use Rattle.vs_base.proofs.bits.Bits.neg.Goals as goal

pub returns : goal.returns
returns c = c.new.ensures ∙ kept_negation c.self.inside.width c.self.inside.value c.self.invariant.most c.self.invariant.fits ∙ ap negated c.self.view_is
