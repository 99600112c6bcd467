use Rattle.std.proofs.Common.{◌<◌, ◌-◌, ◌/◌, ◌^◌, ◌∙◌, arith, refl}
use Rattle.vcd_out.proofs.Codes.{code_starts, code_goes, left_of_start, left_of_next}
use Rattle.vcd_out.proofs.value.put_code.Goals as goal

pub digits-init : goal.digits-init
digits-init c = record {
  written = rw (c.push_reserved.ensures.items, c.digit.ensures) (code_starts c.args.text.now.items c.args.k);
  room =
      let fits : c.args.k < 2 ^ 64 = omega arith in
      let short = left_of_start c.args.k fits in
      omega arith;
  capacity = c.push_reserved.ensures.capacity;
}

pub push_reserved-requires-in-digits : goal.push_reserved-requires-in-digits
push_reserved-requires-in-digits c =
    let left = left_of_next c.digits.rest (c.digits.rest / 94 - 1) c.digits-test.true refl in
    omega arith

pub digits-preserved : goal.digits-preserved
digits-preserved c = record {
  written = rw (c.push_reserved-in-digits.ensures.items, c.digit-in-digits.ensures)
      (code_goes c.digits.text.items c.digits.rest (c.digits.rest / 94 - 1) c.digits-test.true refl ∙ c.digits.invariant.written);
  room =
      let left = left_of_next c.digits.rest (c.digits.rest / 94 - 1) c.digits-test.true refl in
      omega arith;
  capacity = c.push_reserved-in-digits.ensures.capacity ∙ c.digits.invariant.capacity;
}
