use Rattle.stimulus.specs.Stimulus.{design_ports}
use Rattle.stimulus.proofs.Fits.{answers_fit, answers_few}
use Rattle.stimulus.proofs.acts.read_stim.Goals as goal

pub returns-clause-fit : goal.returns-clause-fit
returns-clause-fit c = answers_fit (λ v. v.items) (design_ports c.args.design.now) c.args.bytes.now c.acts_of.result c.acts_of.ensures.acts

pub returns-clause-few : goal.returns-clause-few
returns-clause-few c = answers_few (λ v. v.items) (design_ports c.args.design.now) c.args.bytes.now c.acts_of.result c.acts_of.ensures.acts
