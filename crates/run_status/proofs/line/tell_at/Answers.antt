use Rattle.std.proofs.Common.{◌≡◌, ◌++◌, [], ℕ, List, append_assoc}
use Rattle.std.specs.Prelude.{codes}
use Rattle.run_status.specs.Lines.{placed_text}
use Rattle.run_status.specs.Answer.{error_line}
use Rattle.run_status.specs.LineLaws.{line_whole, line_cut}
use Rattle.run_status.proofs.line.tell_at.Goals as goal

-- how a line with a place is made of its pieces
line_of_pieces : (file line col a b : List ℕ) → codes "vsim: " ++ (file ++ (codes ":" ++ (line ++ (codes ":" ++ (col ++ (codes ":" ++ (codes " " ++ (a ++ (b ++ (codes "\n" ++ [])))))))))) ≡ error_line (placed_text file line col (a ++ b))
line_of_pieces file line col a b = simp append_assoc

pub returns-in-Ok-clause-ok : goal.returns-in-Ok-clause-ok
returns-in-Ok-clause-ok g c =
    let r = c.in-Ok.ensures in
    line_whole _ _ (line_of_pieces c.args.file.now c.args.line.now c.args.col.now c.args.start.now c.args.end.now) (g.W.World.told c.args.world.now) (g.W.World.told c.write_pieces.new.world) r.rest r.ok

pub returns-in-Err-clause-err : goal.returns-in-Err-clause-err
returns-in-Err-clause-err g c =
    let r = c.in-Err.ensures in
    line_cut _ _ (line_of_pieces c.args.file.now c.args.line.now c.args.col.now c.args.start.now c.args.end.now) (g.W.World.told c.args.world.now) (g.W.World.told c.write_pieces.new.world) r.rest r.err r.cause
