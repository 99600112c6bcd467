use Rattle.std.proofs.Common.{◌≡◌, cond, length}
use Rattle.std.specs.List.{list_any}
use Rattle.vcd_out.specs.Header.{is_dot, segment}
use Rattle.vcd_out.proofs.head.last_segment.Given as goal

abbrev pub invariant-bytes : goal.invariant-bytes
invariant-bytes l = cond (list_any is_dot l.rest) (segment l.rest) l.part ≡ segment l.path

abbrev pub decreases-bytes : goal.decreases-bytes
decreases-bytes l = length l.rest
