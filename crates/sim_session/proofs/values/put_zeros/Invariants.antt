use Rattle.std.proofs.Common.{◌≡◌, take, vec_len}
use Rattle.std.specs.Prelude.{vec_capacity}
use Rattle.sim_session.specs.Values.{zeros_of}
use Rattle.sim_session.proofs.values.put_zeros.Given as goal

abbrev pub invariant-loop-var : goal.invariant-loop-var
invariant-loop-var l = record {
  zeros : l.values.items ≡ zeros_of (take l.var-index l.vars);
  len : vec_len l.values ≡ l.var-index;
  capacity : vec_capacity l.values ≡ vec_capacity l.fn.values;
}
