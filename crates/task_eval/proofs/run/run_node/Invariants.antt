use Rattle.std.proofs.Common.{◌≡◌, length}
use Rattle.task_eval.specs.Frames.{going, IsReady}
use Rattle.task_eval.specs.Buses.{run}
use Rattle.task_eval.proofs.run.run_node.Given as goal

abbrev pub invariant-turns : goal.invariant-turns
invariant-turns g l = record {
  ready : IsReady l.code l.frame;
  room : l.frame.room ≡ l.initial.frame.room;
  same : run g.B.Host.Host.answer g.B.Host.Host.after (going l.code l.frame) (g.B.Bus.outside l.bus) ≡ run g.B.Host.Host.answer g.B.Host.Host.after (going l.code l.initial.frame) (g.B.Bus.outside l.initial.bus);
  words : length (g.B.Bus.outside l.bus).words ≡ length (g.B.Bus.outside l.initial.bus).words;
  ids : (g.B.Bus.outside l.bus).ids ≡ (g.B.Bus.outside l.initial.bus).ids;
}

abbrev pub decreases-turns : goal.decreases-turns
decreases-turns g l = l.frame.left
