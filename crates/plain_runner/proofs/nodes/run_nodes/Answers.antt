use Rattle.plain_runner.specs.Seen.{seen_of}
use Rattle.plain_runner.proofs.Grows.{node_fits}
use Rattle.plain_runner.proofs.nodes.run_nodes.Goals as goal

pub run_at-requires-clause-fits : goal.run_at-requires-clause-fits
run_at-requires-clause-fits g c =
    let b = c.args.built.now in
    let l = c.loop-place in
    let live = c.args.live.now in
    node_fits g.C.Callee.answer g.C.Callee.after b.ids c.args.tables.now.widths.items b.deemed b.design.procs b.codes c.args.fired.now c.args.nodes.now c.args.numbers.now l.place
    (g.C.Callee.fixed l.live.host) (g.C.Callee.fixed live.host)
    (seen_of l.live.words.items (g.C.Callee.state l.live.host) l.live.calls.calls) (seen_of live.words.items (g.C.Callee.state live.host) live.calls.calls)
    l.live.calls.room live.calls.room c.is_run.result c.requires.numbers c.loop-place-test.true c.is_run.ensures c.if-is_run.true
    l.invariant.fixed l.invariant.run l.invariant.place c.requires.fits
