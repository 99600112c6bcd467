use Rattle.std.proofs.Common.{◌≤◌, take}
use Rattle.vs_base.specs.declared.limits.TheConstants.{EDGES}
use Rattle.logic_graph.specs.Noting.{HasNoted, Counted}
use Rattle.logic_graph.proofs.noted.note_readers.Given as goal

abbrev pub invariant-loop-j : goal.invariant-loop-j
invariant-loop-j l = record {
  noted : HasNoted l.procs (take l.j l.procs) l.noted.readers.items;
  counted : Counted l.noted.count l.noted.readers.items;
  few : l.noted.count ≤ EDGES;
}
