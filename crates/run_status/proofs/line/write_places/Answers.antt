use Rattle.std.proofs.Common.{ℕ, List, [], get_or, arith, subst}
use Rattle.vs_base.specs.declared.origin.Origin.{Origin}
use Rattle.vs_world.specs.declared.world.Stream.TheVariants.{Errors}
use Rattle.run_status.specs.Written.{Said}
use Rattle.run_status.specs.Lines.{listed_place}
use Rattle.run_status.specs.LineLaws.{texts_cut}
use Rattle.run_status.proofs.line.write_places.Goals as goal

-- what stands past the end of a list of places
abbrev nowhere : Origin
nowhere = record { file = 0; line = 0; col = 0 }

pub returns-in-Err-clause-err : goal.returns-in-Err-clause-err
returns-in-Err-clause-err g c =
    let files = c.args.files.now in
    let at = get_or c.args.places.now c.loop-place.place-index nowhere in
    let begun = subst (λ (name : List ℕ). Said Errors (listed_place name at) (g.W.World.told c.loop-place.world) (g.W.World.told c.write_place.new.world)) c.file_name.ensures c.in-Err.ensures.err in
    texts_cut (λ (at : Origin). listed_place (get_or files at.file []) at) c.args.places.now c.loop-place.place-index nowhere (omega arith) Errors (g.W.World.told c.args.world.now) (g.W.World.told c.loop-place.world)
    (g.W.World.told c.write_place.new.world) c.loop-place.invariant.written begun
