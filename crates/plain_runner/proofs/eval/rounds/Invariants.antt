use Rattle.std.proofs.Common.{◌≡◌, ◌-◌, length}
use Rattle.plain_runner.specs.Seen.{seen_of, env_of, rounds_in}
use Rattle.plain_runner.proofs.eval.rounds.Given as goal

abbrev pub invariant-loop-run : goal.invariant-loop-run
invariant-loop-run g l = record {
  room : l.frame.room ≡ l.initial.frame.room;
  fixed : g.C.Callee.fixed l.live.host ≡ g.C.Callee.fixed l.initial.live.host;
  words : length l.live.words.items ≡ length l.initial.live.words.items;
  last : length l.past.last.items ≡ length l.initial.past.last.items;
  fired : length l.past.fired.items ≡ length l.initial.past.fired.items;
  place : l.live.calls.room ≡ l.initial.live.calls.room;
  same : rounds_in g.C.Callee.answer g.C.Callee.after (env_of (g.C.Callee.fixed l.initial.live.host) l.built.ids l.tables.widths.items l.built.deemed) l.built (l.most - l.run) l.past.last.items (seen_of l.live.words.items (g.C.Callee.state l.live.host) l.live.calls.calls) ≡ rounds_in g.C.Callee.answer g.C.Callee.after (env_of (g.C.Callee.fixed l.initial.live.host) l.built.ids l.tables.widths.items l.built.deemed) l.built l.most l.initial.past.last.items (seen_of l.initial.live.words.items (g.C.Callee.state l.initial.live.host) l.initial.live.calls.calls);
}
