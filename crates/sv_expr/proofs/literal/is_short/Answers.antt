use Rattle.std.proofs.Common.{sym, ◌∙◌, ◌^◌, arith}
use Rattle.sv_expr.proofs.Digits.{too_long}
use Rattle.sv_expr.proofs.literal.is_short.Goals as goal

pub returns-then-sum : goal.returns-then-sum
returns-then-sum c = sym (too_long c.args.digits.base c.loop-rest.sum (2 ^ 32) c.loop-rest.rest.now (omega arith) (grind arith) c.requires (grind arith)) ∙ c.loop-rest.invariant.0
