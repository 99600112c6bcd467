use Rattle.std.proofs.Common.{◌≡◌, length}
use Rattle.task_eval.specs.Frames.{going, IsReady}
use Rattle.plain_runner.specs.Seen.{seen_of, env_of, go}
use Rattle.plain_runner.proofs.turn.run_code.Given as goal

abbrev pub invariant-turns : goal.invariant-turns
invariant-turns g l = record {
  ready : IsReady l.code l.frame;
  room : l.frame.room ≡ l.initial.frame.room;
  fixed : g.C.Callee.fixed l.live.host ≡ g.C.Callee.fixed l.initial.live.host;
  same : go g.C.Callee.answer g.C.Callee.after (env_of (g.C.Callee.fixed l.initial.live.host) l.built.ids l.tables.widths.items l.built.deemed) (going l.code l.frame) (seen_of l.live.words.items (g.C.Callee.state l.live.host) l.live.calls.calls) ≡ go g.C.Callee.answer g.C.Callee.after (env_of (g.C.Callee.fixed l.initial.live.host) l.built.ids l.tables.widths.items l.built.deemed) (going l.code l.initial.frame) (seen_of l.initial.live.words.items (g.C.Callee.state l.initial.live.host) l.initial.live.calls.calls);
  place : l.live.calls.room ≡ l.initial.live.calls.room;
  words : length l.live.words.items ≡ length l.initial.live.words.items;
}

abbrev pub decreases-turns : goal.decreases-turns
decreases-turns g l = l.frame.left
