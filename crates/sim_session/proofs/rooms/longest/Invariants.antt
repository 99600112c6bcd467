use Rattle.std.proofs.Common.{◌≡◌, length}
use Rattle.std.specs.Prelude.{max}
use Rattle.sim_session.specs.Rooms.{longest}
use Rattle.sim_session.proofs.rooms.longest.Given as goal

abbrev pub invariant-imports : goal.invariant-imports
invariant-imports l = max l.most (longest l.rest) ≡ longest l.imports

abbrev pub decreases-imports : goal.decreases-imports
decreases-imports l = length l.rest
