use Rattle.std.proofs.Common.{◌≡◌, ◌≤◌, ◌+◌, ◌*◌, ◌++◌, length, true, [], vec_len}
use Rattle.std.specs.Prelude.{vec_capacity}
use Rattle.std.specs.List.{list_all}
use Rattle.rtl_ir.specs.Types.{is_type}
use Rattle.sim_session.specs.CallLines.{args_text}
use Rattle.sim_session.proofs.log.put_args.Given as goal

abbrev pub invariant-types : goal.invariant-types
invariant-types l = record {
  written : l.text.items ++ args_text l.before l.types l.args ≡ l.fn.text.items ++ args_text [] l.fn.types l.fn.args;
  fit : list_all is_type l.types ≡ true;
  short : length l.before ≤ 1;
  most : vec_len l.text + 33 * length l.types ≤ vec_len l.fn.text + 33 * length l.fn.types;
  room : vec_len l.text + 33 * length l.types ≤ vec_capacity l.text;
  capacity : vec_capacity l.fn.text ≤ vec_capacity l.text;
}

abbrev pub decreases-types : goal.decreases-types
decreases-types l = length l.types
