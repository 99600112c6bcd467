use Rattle.std.proofs.Common.{sym, arith}
use Rattle.vs_base.specs.NumberLaws.{high_is_zero}
use Rattle.vs_base.proofs.bits.down.Goals as goal

pub returns-then-by-ge128 : goal.returns-then-by-ge128
returns-then-by-ge128 c = sym (high_is_zero c.args.value 128 c.args.by (omega arith) c.if-by-ge128.true)
