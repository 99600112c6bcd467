use Rattle.std.proofs.Common.{refl}
use Rattle.sv_pp.proofs.file.use_in_file.Goals as goal

pub returns : goal.returns
returns c s shows = record { went = c.in_default.ensures s.macros shows.kept; more_is = refl; shows = shows }
