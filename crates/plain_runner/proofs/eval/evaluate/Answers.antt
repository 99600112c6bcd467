use Rattle.std.proofs.Common.{refl}
use Rattle.plain_runner.specs.Seen.{seen_of}
use Rattle.plain_runner.proofs.Evals.{settle_fits, rounds_fit, eval_from, converges_from, few_from}
use Rattle.plain_runner.proofs.eval.evaluate.Goals as goal

pub settle-requires-clause-fits : goal.settle-requires-clause-fits
settle-requires-clause-fits g c =
    let b = c.args.built.now in
    settle_fits g.C.Callee.answer g.C.Callee.after b.ids c.args.tables.now.widths.items b.deemed b c.args.inputs.now c.args.past.now.last.items
    (g.C.Callee.fixed c.args.live.now.host) (seen_of c.args.live.now.words.items (g.C.Callee.state c.args.live.now.host) c.args.live.now.calls.calls)
    c.args.live.now.calls.room refl c.requires.place

pub rounds-requires-clause-fits : goal.rounds-requires-clause-fits
rounds-requires-clause-fits g c =
    let b = c.args.built.now in
    let live = c.args.live.now in
    let first = c.settle.new.live in
    rounds_fit g.C.Callee.answer g.C.Callee.after b.ids c.args.tables.now.widths.items b.deemed b c.args.inputs.now c.args.past.now.last.items
    (g.C.Callee.fixed live.host) (g.C.Callee.fixed first.host)
    (seen_of live.words.items (g.C.Callee.state live.host) live.calls.calls) (seen_of first.words.items (g.C.Callee.state first.host) first.calls.calls)
    live.calls.room first.calls.room refl c.settle.ensures.fixed c.settle.ensures.run c.settle.ensures.place c.requires.place

pub returns-clause-eval : goal.returns-clause-eval
returns-clause-eval g c =
    let b = c.args.built.now in
    let live = c.args.live.now in
    let first = c.settle.new.live in
    let end = c.rounds.new.live in
    eval_from g.C.Callee.answer g.C.Callee.after b.ids c.args.tables.now.widths.items b.deemed b c.args.inputs.now c.args.past.now.last.items c.rounds.new.past.last.items
    (g.C.Callee.fixed live.host) (g.C.Callee.fixed first.host) (g.C.Callee.fixed end.host)
    (seen_of live.words.items (g.C.Callee.state live.host) live.calls.calls) (seen_of first.words.items (g.C.Callee.state first.host) first.calls.calls)
    (seen_of end.words.items (g.C.Callee.state end.host) end.calls.calls) c.rounds.result
    refl c.settle.ensures.fixed c.rounds.ensures.fixed c.settle.ensures.run c.rounds.ensures.ends c.rounds.ensures.last

pub returns-clause-converges : goal.returns-clause-converges
returns-clause-converges g c =
    let b = c.args.built.now in
    let live = c.args.live.now in
    let first = c.settle.new.live in
    let end = c.rounds.new.live in
    converges_from g.C.Callee.answer g.C.Callee.after b.ids c.args.tables.now.widths.items b.deemed b c.args.inputs.now c.args.past.now.last.items
    (g.C.Callee.fixed live.host) (g.C.Callee.fixed first.host)
    (seen_of live.words.items (g.C.Callee.state live.host) live.calls.calls) (seen_of first.words.items (g.C.Callee.state first.host) first.calls.calls)
    (seen_of end.words.items (g.C.Callee.state end.host) end.calls.calls) c.rounds.result
    c.settle.ensures.fixed c.settle.ensures.run c.rounds.ensures.ends

pub returns-clause-few : goal.returns-clause-few
returns-clause-few g c =
    let b = c.args.built.now in
    let live = c.args.live.now in
    let first = c.settle.new.live in
    let end = c.rounds.new.live in
    few_from g.C.Callee.answer g.C.Callee.after b.ids c.args.tables.now.widths.items b.deemed b c.args.inputs.now c.args.past.now.last.items
    (g.C.Callee.fixed live.host) (g.C.Callee.fixed first.host)
    (seen_of live.words.items (g.C.Callee.state live.host) live.calls.calls) (seen_of first.words.items (g.C.Callee.state first.host) first.calls.calls)
    (seen_of end.words.items (g.C.Callee.state end.host) end.calls.calls) c.rounds.result
    refl c.settle.ensures.fixed c.settle.ensures.run c.rounds.ensures.ends
