use Rattle.std.proofs.Common.{◌≡◌, map, drop}
use Rattle.elab_parts.specs.Actuals.{places_in, placed_from}
use Rattle.elab_parts.proofs.given.Places.put_more.Given as goal

-- the others from here on come to what all come to
abbrev pub invariant-loop-joined : goal.invariant-loop-joined
invariant-loop-joined l = placed_from l.place (map (λ j. j.item) (drop l.joined-index l.more)) (places_in l.self) ≡ placed_from 2 (map (λ j. j.item) l.more) (places_in l.fn.self)
