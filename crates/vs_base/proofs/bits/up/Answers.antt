use Rattle.std.proofs.Common.{sym}
use Rattle.vs_base.proofs.NumberLemmas.{up_is_lost}
use Rattle.vs_base.proofs.bits.up.Goals as goal

pub returns-then-by-ge128 : goal.returns-then-by-ge128
returns-then-by-ge128 c = sym (up_is_lost c.args.value c.args.by c.if-by-ge128.true)
