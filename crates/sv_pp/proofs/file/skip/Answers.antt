use Rattle.std.proofs.Common.{◌≡◌, subst, ◌+◌, arith}
use Rattle.sv_pp.specs.Reading.{silent}
use Rattle.sv_pp.specs.Shown.{Stops}
use Rattle.sv_pp.proofs.Laws.{stops_later}
use Rattle.sv_pp.proofs.file.skip.Goals as goal

pub returns-in-Err-read : goal.returns-in-Err-read
returns-in-Err-read c =
    let more = c.args.more in
    let same : 1 + more ≡ more + 1 = omega arith in
    subst (λ n. Stops c.args.going.now (silent n) c.in-Err-read.fault) same (stops_later c.args.going.now c.read.new.self (silent 1) (silent more) c.in-Err-read.fault c.in_default.ensures.went (c.in-Err-read.ensures.stops (silent more) (omega arith)))
