use Rattle.std.proofs.Common.{◌≡◌, ◌≤◌, ◌+◌, ◌++◌, length, vec_len}
use Rattle.std.specs.Prelude.{vec_capacity}
use Rattle.vcd_out.specs.Changes.{rooms, widths_of, changes}
use Rattle.vcd_out.proofs.change.put_changes.Given as goal

abbrev pub invariant-places : goal.invariant-places
invariant-places l = record {
  written : l.text.items ++ changes l.old l.new l.k l.rest ≡ l.fn.text.items ++ changes l.old l.new 0 l.order;
  count : l.k + length l.rest ≡ length l.order;
  room : vec_len l.text + rooms (widths_of l.new) l.rest ≤ vec_capacity l.text;
  capacity : vec_capacity l.fn.text ≤ vec_capacity l.text;
}

abbrev pub decreases-places : goal.decreases-places
decreases-places l = length l.rest
