use Rattle.std.proofs.Common.{◌≡◌, ◌≤◌, ◌+◌, length}
use Rattle.sv_lex.specs.Cut.{advance}
use Rattle.sv_lex.proofs.file.advance.Given as goal

abbrev pub invariant-loop-bytes : goal.invariant-loop-bytes
invariant-loop-bytes l = (advance l.at l.bytes ≡ advance l.initial.at l.initial.bytes) × (l.at.line + length l.bytes ≤ l.initial.at.line + length l.initial.bytes)
    × (l.at.col + length l.bytes ≤ l.initial.at.col + length l.initial.bytes) × (1 ≤ l.initial.at.col → 1 ≤ l.at.col)

abbrev pub decreases-loop-bytes : goal.decreases-loop-bytes
decreases-loop-bytes l = length l.bytes
