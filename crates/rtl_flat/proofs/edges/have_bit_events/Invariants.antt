use Rattle.std.proofs.Common.{◌≡◌, take, true}
use Rattle.std.specs.List.{list_all}
use Rattle.rtl_flat.specs.Edges.{has_bit_events}
use Rattle.rtl_flat.proofs.edges.have_bit_events.Given as goal

abbrev pub invariant-loop-process : goal.invariant-loop-process
invariant-loop-process l = list_all (has_bit_events l.vars) (take l.process-index l.procs) ≡ true
