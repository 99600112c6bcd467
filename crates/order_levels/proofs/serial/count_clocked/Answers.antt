use Rattle.std.proofs.Common.{◌≡◌, length, arith}
use Rattle.std.proofs.lemmas.Grind.{common_steps}
use Rattle.order_levels.specs.Serial.{clocked_procs}
use Rattle.order_levels.proofs.SerialLemmas.{numbers_length, both_kinds}
use Rattle.order_levels.proofs.serial.count_clocked.Goals as goal

pub returns-clause-others : goal.returns-clause-others
returns-clause-others c =
    let first : c.count.result ≡ length (clocked_procs c.args.clocked.now) = grind (arith, common_steps, numbers_length) in
    let both = both_kinds c.args.clocked.now in
    omega arith
