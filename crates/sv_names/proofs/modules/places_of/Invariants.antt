use Rattle.std.proofs.Common.{◌≡◌, ℕ, drop}
use Rattle.sv_names.specs.Candidates.{place_of, first_of, first_module}
use Rattle.sv_names.proofs.modules.places_of.Given as goal

-- the place of a name that is noted, or else of the first among the rest, is that of the first among all
abbrev pub invariant-loop-at : goal.invariant-loop-at
invariant-loop-at l = (name : ℕ) → first_of (place_of l.places.entries name) (first_module name l.at (drop l.at l.descriptions)) ≡ first_module name 0 l.descriptions
