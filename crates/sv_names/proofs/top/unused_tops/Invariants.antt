use Rattle.std.proofs.Common.{◌≡◌, map, drop}
use Rattle.sv_names.specs.Candidates.{unused}
use Rattle.sv_names.specs.Tops.{summary, with_more}
use Rattle.sv_names.proofs.top.unused_tops.Given as goal

abbrev pub invariant-loop-at : goal.invariant-loop-at
invariant-loop-at l = with_more l.tops (unused (map (λ u. u.child.0) l.uses) l.at (drop l.at l.descriptions)) ≡ summary (unused (map (λ u. u.child.0) l.uses) 0 l.descriptions)
