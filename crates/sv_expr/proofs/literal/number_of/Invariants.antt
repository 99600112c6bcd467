use Rattle.std.proofs.Common.{◌≡◌, ◌<◌, ◌%◌, ◌^◌, length}
use Rattle.sv_lex.specs.Number.{value}
use Rattle.sv_expr.proofs.literal.number_of.Given as goal

abbrev pub invariant-loop-rest : goal.invariant-loop-rest
invariant-loop-rest l = (value l.base l.sum l.rest % 2 ^ 128 ≡ value l.base 0 l.text % 2 ^ 128) × (l.sum < 2 ^ 128)

abbrev pub decreases-loop-rest : goal.decreases-loop-rest
decreases-loop-rest l = length l.rest
