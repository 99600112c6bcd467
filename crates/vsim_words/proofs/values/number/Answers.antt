use Rattle.std.proofs.Common.{◌≡◌, ◌<◌, ◌+◌, ◌*◌, arith}
use Rattle.vsim_words.proofs.Counts.{number_fits, number_read, numbering_starts}
use Rattle.vsim_words.proofs.values.number.Goals as goal

pub overflow_mul-value : goal.overflow_mul-value
overflow_mul-value c =
    let h : c.digits.value * 10 + c.in-Some.d < 1000000000 = number_fits c.args.text.now c.digits.rest.now c.digits.value c.in-Some.d c.in-len1-up.len_at_least c.digits.invariant c.in-Some.ensures.small in
    omega arith

pub overflow_add-value : goal.overflow_add-value
overflow_add-value c =
    let h : c.digits.value * 10 + c.in-Some.d < 1000000000 = number_fits c.args.text.now c.digits.rest.now c.digits.value c.in-Some.d c.in-len1-up.len_at_least c.digits.invariant c.in-Some.ensures.small in
    let same : c.from.result ≡ c.in-Some.d = c.from.ensures in
    omega arith

pub digits-preserved : goal.digits-preserved
digits-preserved c =
    rw c.from.ensures
    (number_read c.args.text.now c.digits.rest.now c.digits.value c.in-Some.d c.in-len1-up.len_at_least c.digits.invariant c.in-Some.ensures.digit.0 c.in-Some.ensures.digit.1 c.in-Some.ensures.small)

pub digits-init : goal.digits-init
digits-init c = numbering_starts c.args.text.now c.if-text-gt9.false
