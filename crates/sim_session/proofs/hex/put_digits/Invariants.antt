use Rattle.std.proofs.Common.{◌≡◌, ◌+◌, ◌++◌, vec_len}
use Rattle.std.specs.Prelude.{vec_capacity}
use Rattle.sim_session.specs.Lines.{hex_of}
use Rattle.sim_session.proofs.hex.put_digits.Given as goal

abbrev pub invariant-digits : goal.invariant-digits
invariant-digits l = record {
  written : l.text.items ++ hex_of l.left l.value ≡ l.fn.text.items ++ hex_of l.digits l.value;
  room : vec_len l.text + l.left ≡ vec_len l.fn.text + l.digits;
  capacity : vec_capacity l.text ≡ vec_capacity l.fn.text;
}

abbrev pub decreases-digits : goal.decreases-digits
decreases-digits l = l.left
