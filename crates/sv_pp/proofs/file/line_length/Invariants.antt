use Rattle.std.proofs.Common.{◌≡◌, ◌+◌, length}
use Rattle.sv_pp.specs.Active.{line_length}
use Rattle.sv_pp.proofs.file.line_length.Given as goal

abbrev pub invariant-loop-rest : goal.invariant-loop-rest
invariant-loop-rest l = (l.count + line_length l.line l.rest ≡ line_length l.line l.tokens) × (l.count + length l.rest ≡ length l.tokens)

abbrev pub decreases-loop-rest : goal.decreases-loop-rest
decreases-loop-rest l = length l.rest
