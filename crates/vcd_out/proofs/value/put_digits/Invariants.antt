use Rattle.std.proofs.Common.{◌≡◌, ◌+◌, ◌++◌, vec_len}
use Rattle.std.specs.Prelude.{vec_capacity}
use Rattle.vcd_out.specs.Values.{digits_of}
use Rattle.vcd_out.proofs.value.put_digits.Given as goal

abbrev pub invariant-digits : goal.invariant-digits
invariant-digits l = record {
  written : l.text.items ++ digits_of l.left l.value ≡ l.fn.text.items ++ digits_of l.value.width l.value;
  room : vec_len l.text + l.left ≡ vec_len l.fn.text + l.value.width;
  capacity : vec_capacity l.text ≡ vec_capacity l.fn.text;
}

abbrev pub decreases-digits : goal.decreases-digits
decreases-digits l = l.left
