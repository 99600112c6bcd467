use Rattle.std.proofs.Common.{◌-◌, ◌∙◌, arith}
use Rattle.vcd_out.proofs.Digits.{digit_added}
use Rattle.vcd_out.proofs.value.put_digits.Goals as goal

pub digits-preserved : goal.digits-preserved
digits-preserved c = record {
  written = rw (c.push_reserved.ensures.items, c.bin_digit.ensures) (digit_added c.digits.text.items c.args.value c.digits.left (c.digits.left - 1) (omega arith) ∙ c.digits.invariant.written);
  room = omega arith;
  capacity = c.push_reserved.ensures.capacity ∙ c.digits.invariant.capacity;
}
