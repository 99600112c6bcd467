use Rattle.std.proofs.Common.{◌≡◌, ◌<◌, ◌^◌, nat_lt, length}
use Rattle.sv_lex.specs.Number.{value}
use Rattle.sv_expr.proofs.literal.is_short.Given as goal

abbrev pub invariant-loop-rest : goal.invariant-loop-rest
invariant-loop-rest l = (nat_lt (value l.digits.base l.sum l.rest) (2 ^ 32) ≡ nat_lt (value l.digits.base 0 l.fn.digits.text.now) (2 ^ 32)) × (l.sum < 2 ^ 32)

abbrev pub decreases-loop-rest : goal.decreases-loop-rest
decreases-loop-rest l = length l.rest
