use Rattle.std.proofs.Common.{length}
use Rattle.sv_tree.specs.Tokens.{AreNamed}
use Rattle.sv_pp.specs.Reading.{Macros}
use Rattle.sv_pp.specs.Active.{at_start}
use Rattle.sv_pp.specs.Shown.{Shows}
use Rattle.sv_pp.proofs.Files.{Left}
use Rattle.sv_pp.proofs.file.read_file.Given as goal

abbrev pub invariant-loop-rest : goal.invariant-loop-rest
invariant-loop-rest l = AreNamed l.names l.rest × ((macros : Macros) → Shows l.names l.fn.place (at_start macros) → Left l.names l.fn.going l.going l.place l.rest macros l.tokens)

abbrev pub decreases-loop-rest : goal.decreases-loop-rest
decreases-loop-rest l = length l.rest
