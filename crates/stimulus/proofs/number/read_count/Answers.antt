use Rattle.std.proofs.Common.{◌≡◌, ◌<◌, ◌+◌, ◌*◌, arith}
use Rattle.stimulus.proofs.Counts.{count_fits, count_read, counting_starts}
use Rattle.stimulus.proofs.number.read_count.Goals as goal

pub overflow_mul-value : goal.overflow_mul-value
overflow_mul-value c =
    let h : c.digits.value * 10 + c.in-Some.d < 10000000 = count_fits c.args.text.now c.digits.rest.now c.digits.value c.in-Some.d c.in-len1-up.len_at_least c.digits.invariant c.in-Some.ensures.small in
    omega arith

pub overflow_add-value : goal.overflow_add-value
overflow_add-value c =
    let h : c.digits.value * 10 + c.in-Some.d < 10000000 = count_fits c.args.text.now c.digits.rest.now c.digits.value c.in-Some.d c.in-len1-up.len_at_least c.digits.invariant c.in-Some.ensures.small in
    let same : c.from.result ≡ c.in-Some.d = c.from.ensures in
    omega arith

pub digits-preserved : goal.digits-preserved
digits-preserved c =
    rw c.from.ensures
    (count_read c.args.text.now c.digits.rest.now c.digits.value c.in-Some.d c.in-len1-up.len_at_least c.digits.invariant c.in-Some.ensures.digit.0 c.in-Some.ensures.digit.1 c.in-Some.ensures.small)

pub digits-init : goal.digits-init
digits-init c = counting_starts c.args.text.now c.if-text-gt7.false
