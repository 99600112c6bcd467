use Rattle.model_copy.proofs.Runs.{runs_as}
use Rattle.model_copy.proofs.built.copy_built.Goals as goal

pub returns-in-Ok-clause-runs : goal.returns-in-Ok-clause-runs
returns-in-Ok-clause-runs c =
    let same = c.in-Ok.ensures in
    runs_as c.in-Ok.copy c.args.built.now same.design same.words same.codes same.settle same.clocked same.deemed same.ids
