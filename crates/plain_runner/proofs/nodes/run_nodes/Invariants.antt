use Rattle.std.proofs.Common.{◌≡◌, length, take}
use Rattle.plain_runner.specs.Seen.{seen_of, env_of, go_nodes}
use Rattle.plain_runner.proofs.nodes.run_nodes.Given as goal

abbrev pub invariant-loop-place : goal.invariant-loop-place
invariant-loop-place g l = record {
  room : l.frame.room ≡ l.initial.frame.room;
  fixed : g.C.Callee.fixed l.live.host ≡ g.C.Callee.fixed l.initial.live.host;
  words : length l.live.words.items ≡ length l.initial.live.words.items;
  place : l.live.calls.room ≡ l.initial.live.calls.room;
  run : seen_of l.live.words.items (g.C.Callee.state l.live.host) l.live.calls.calls ≡ go_nodes g.C.Callee.answer g.C.Callee.after (env_of (g.C.Callee.fixed l.initial.live.host) l.built.ids l.tables.widths.items l.built.deemed) l.built.design.procs l.built.codes l.fired (take l.place l.nodes) (seen_of l.initial.live.words.items (g.C.Callee.state l.initial.live.host) l.initial.live.calls.calls);
}
