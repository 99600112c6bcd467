use Rattle.std.proofs.Common.{◌≤◌, length}
use Rattle.sv_lex.specs.Cut.{cut, start}
use Rattle.sv_lex.proofs.Whole.{Going}
use Rattle.sv_lex.proofs.file.lex_up_to.Given as goal

abbrev pub invariant-loop-rest : goal.invariant-loop-rest
invariant-loop-rest l =
    Going (cut (start l.file) l.bytes) (length l.bytes) l.fn.names l.names l.tokens.items l.at l.rest × (length l.tokens.items ≤ l.most)

abbrev pub decreases-loop-rest : goal.decreases-loop-rest
decreases-loop-rest l = length l.rest
