use Rattle.std.proofs.Common.{◌≡◌, ◌≤◌, ◌+◌, ◌++◌, length, vec_len}
use Rattle.std.specs.Prelude.{vec_capacity}
use Rattle.vcd_out.specs.Code.{code_of}
use Rattle.vcd_out.proofs.Codes.{code_after}
use Rattle.vcd_out.proofs.value.put_code.Given as goal

abbrev pub invariant-digits : goal.invariant-digits
invariant-digits l = record {
  written : l.text.items ++ code_after l.rest ≡ l.fn.text.items ++ code_of l.k;
  room : vec_len l.text + length (code_after l.rest) ≤ vec_len l.fn.text + 10;
  capacity : vec_capacity l.text ≡ vec_capacity l.fn.text;
}

abbrev pub decreases-digits : goal.decreases-digits
decreases-digits l = l.rest
