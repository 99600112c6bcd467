-- What code counts to is what the definition says.
use Rattle.std.proofs.Common.{◌≡◌, refl}
use Rattle.plan_types.specs.declared.run.TheConstants.{MOST_RUNS}
use Rattle.plan_types.specs.Machine.{most_runs}

pub most : most_runs ≡ MOST_RUNS
unfolding most_runs
most = refl
