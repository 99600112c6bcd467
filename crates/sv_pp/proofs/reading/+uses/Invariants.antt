use Rattle.std.proofs.Common.{◌*◌, ◌+◌, length}
use Rattle.sv_tree.specs.Tokens.{AreNamed}
use Rattle.sv_pp.specs.Reading.{Macros, each_reading, inner_reading, use_reading}
use Rattle.sv_pp.specs.Shown.{Remains}
use Rattle.sv_pp.specs.Table.{Keeps}
use Rattle.sv_pp.proofs.reading.+uses.Given as goal

abbrev pub decreases-read_use : goal.decreases-read_use
decreases-read_use l = l.levels * 3

abbrev pub decreases-read_body : goal.decreases-read_body
decreases-read_body l = l.levels * 3 + 2

abbrev pub decreases-read_inner : goal.decreases-read_inner
decreases-read_inner l = l.levels * 3 + 1

abbrev pub decreases-read_body-loop-rest : goal.decreases-read_body-loop-rest
decreases-read_body-loop-rest l = length l.rest

abbrev pub invariant-read_body-loop-rest : goal.invariant-read_body-loop-rest
invariant-read_body-loop-rest l =
    AreNamed l.names l.rest
    × ((macros : Macros) → Keeps l.names l.table macros
    → Remains l.fn.going l.going (each_reading (inner_reading l.names l.at (use_reading l.names macros l.at l.levels)) l.rest) (each_reading (inner_reading l.names l.at (use_reading l.names macros l.at l.levels)) l.body))
