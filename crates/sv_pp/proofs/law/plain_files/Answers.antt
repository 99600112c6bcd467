use Rattle.sv_pp.proofs.Plain.{plain_stands}
use Rattle.sv_pp.proofs.law.plain_files.Goals as goal

pub returns : goal.returns
returns c = plain_stands
