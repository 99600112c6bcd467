use Rattle.std.proofs.Common.{◌≡◌, ℕ, map, length, ◌||◌}
use Rattle.std.specs.List.{list_any}
use Rattle.std.specs.Prelude.{◌==◌}
use Rattle.sv_names.specs.Candidates.{among}
use Rattle.sv_names.proofs.top.used_names.Given as goal

-- what is in the set, or among the rest, is among all
abbrev pub invariant-loop-rest : goal.invariant-loop-rest
invariant-loop-rest l = (name : ℕ) → list_any (λ key. name == key) l.used.keys || among name (map (λ u. u.child.0) l.rest) ≡ among name (map (λ u. u.child.0) l.uses)

abbrev pub decreases-loop-rest : goal.decreases-loop-rest
decreases-loop-rest l = length l.rest
