use Rattle.std.proofs.Common.{◌≡◌, ◌++◌, [], ℕ, List, append_assoc}
use Rattle.std.specs.Prelude.{codes}
use Rattle.vs_world.specs.declared.world.Stream.TheVariants.{Errors}
use Rattle.vs_world.specs.CountLaws.{rose_between, writes_again}
use Rattle.vs_world.specs.StreamLaws.{then_piece}
use Rattle.run_status.specs.Answer.{error_line}
use Rattle.run_status.specs.Lines.{listed_places}
use Rattle.run_status.specs.LineLaws.{line_whole, line_cut, said_first, said_second}
use Rattle.run_status.proofs.line.tell_listed.Goals as goal

-- how a line that ends in places is made of its pieces
line_of_pieces : (a b places : List ℕ) → (codes "vsim: " ++ (a ++ (b ++ (codes ":" ++ [])))) ++ (places ++ codes "\n") ≡ error_line ((a ++ b) ++ codes ":" ++ places)
line_of_pieces a b places = simp append_assoc

pub returns-in-Err-clause-err : goal.returns-in-Err-clause-err
returns-in-Err-clause-err g c =
    let places = listed_places c.args.files.now c.args.places.now in
    let t0 = g.W.World.told c.args.world.now in
    let t1 = g.W.World.told c.write_pieces.new.world in
    let r = c.in-Err.ensures in
    line_cut _ _ (line_of_pieces c.args.start.now c.args.end.now places) t0 t1 r.rest (said_first Errors _ (places ++ codes "\n") t0 t1 r.err) r.cause

pub returns-in-Ok-end_listed-clause-ok : goal.returns-in-Ok-end_listed-clause-ok
returns-in-Ok-end_listed-clause-ok g c =
    let places = listed_places c.args.files.now c.args.places.now in
    let t0 = g.W.World.told c.args.world.now in
    let t1 = g.W.World.told c.write_pieces.new.world in
    let t2 = g.W.World.told c.end_listed.new.world in
    let r = c.in-Ok.ensures in
    let e = c.in-Ok-end_listed.ensures in
    line_whole _ _ (line_of_pieces c.args.start.now c.args.end.now places) t0 t2 (writes_again t0 t1 t2 r.rest e.rest) (then_piece Errors _ (places ++ codes "\n") t0.written t1.written t2.written r.ok e.ok)

pub returns-in-Err-end_listed-clause-err : goal.returns-in-Err-end_listed-clause-err
returns-in-Err-end_listed-clause-err g c =
    let places = listed_places c.args.files.now c.args.places.now in
    let t0 = g.W.World.told c.args.world.now in
    let t1 = g.W.World.told c.write_pieces.new.world in
    let t2 = g.W.World.told c.end_listed.new.world in
    let r = c.in-Ok.ensures in
    let e = c.in-Err-end_listed.ensures in
    line_cut _ _ (line_of_pieces c.args.start.now c.args.end.now places) t0 t2 (writes_again t0 t1 t2 r.rest e.rest) (said_second Errors _ (places ++ codes "\n") t0 t1 t2 r.ok e.err)
    (rose_between t0.faults t1.faults t2.faults r.rest.later e.cause)
