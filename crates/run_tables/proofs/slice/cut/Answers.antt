use Rattle.std.proofs.Common.{◌<◌, ◌≤◌, ◌^◌, sym, arith}
use Rattle.std.proofs.Math.Nat.{pow-le-pow_right, mod-eq_of_lt}
use Rattle.run_tables.proofs.slice.cut.Goals as goal

pub returns-then-len-ge64 : goal.returns-then-len-ge64
returns-then-len-ge64 c =
    let more : 2 ^ 64 ≤ 2 ^ c.args.len = pow-le-pow_right {n = 2} (omega arith) {i = 64} {j = c.args.len} (omega arith) in
    let fits : c.args.value < 2 ^ 64 = omega arith in
    sym (mod-eq_of_lt (omega arith))
