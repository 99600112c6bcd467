use Rattle.std.proofs.Common.{◌≡◌, map, drop}
use Rattle.elab_parts.specs.Actuals.{places_in, without}
use Rattle.elab_parts.proofs.given.Places.clear_more.Given as goal

-- the others from here on come to what all come to
abbrev pub invariant-loop-joined : goal.invariant-loop-joined
invariant-loop-joined l = without (map (λ j. j.item) (drop l.joined-index l.more)) (places_in l.self) ≡ without (map (λ j. j.item) l.more) (places_in l.fn.self)
