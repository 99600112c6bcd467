use Rattle.sv_pp.proofs.Plain.{one_branch_is_active}
use Rattle.sv_pp.proofs.law.conditional.Goals as goal

pub returns : goal.returns
returns c = one_branch_is_active
