use Rattle.std.proofs.Common.{◌-◌, ◌+◌, ℕ, Bool, List, length, sym, ap, ◌∙◌, arith}
use Rattle.std.proofs.lemmas.List.{length-map}
use Rattle.rtl_ir.specs.declared.design.Proc.{Proc}
use Rattle.plan_types.specs.Machine.{kind_fires}
use Rattle.plain_runner.specs.Seen.{seen_of}
use Rattle.plain_runner.proofs.Rounds.{stops, at_last, goes_from, fits_from}
use Rattle.plain_runner.proofs.eval.rounds.Goals as goal

pub returns-then-not-test-clause-ends : goal.returns-then-not-test-clause-ends
returns-then-not-test-clause-ends g c =
    let b = c.args.built.now in
    let l = c.loop-run in
    stops g.C.Callee.answer g.C.Callee.after b.ids c.args.tables.now.widths.items b.deemed b (g.C.Callee.fixed c.args.live.now.host) (c.args.most - l.run) l.past.last.items
    c.as_slice.result.now (seen_of l.live.words.items (g.C.Callee.state l.live.host) l.live.calls.calls) c.test.result c.test.ensures.some c.as_slice.ensures.value c.if-not-test.true
    ∙ l.invariant.same

pub returns-clause-ends : goal.returns-clause-ends
returns-clause-ends g c =
    let b = c.args.built.now in
    let l = c.loop-run in
    at_last g.C.Callee.answer g.C.Callee.after b.ids c.args.tables.now.widths.items b.deemed b (g.C.Callee.fixed c.args.live.now.host) (c.args.most - l.run) l.past.last.items
    c.as_slice-2.result.now (seen_of l.live.words.items (g.C.Callee.state l.live.host) l.live.calls.calls) c.test-2.result c.test-2.ensures.some c.as_slice-2.ensures.value
    (omega (arith, c.loop-run-test.false, l.auto.run-end))
    ∙ l.invariant.same

pub run_nodes-requires-clause-fits : goal.run_nodes-requires-clause-fits
run_nodes-requires-clause-fits g c =
    let b = c.args.built.now in
    let l = c.loop-run in
    let live = c.args.live.now in
    fits_from g.C.Callee.answer g.C.Callee.after b.ids c.args.tables.now.widths.items b.deemed b (g.C.Callee.fixed live.host) (c.args.most - l.run) l.past.last.items
    c.as_slice.result.now (seen_of l.live.words.items (g.C.Callee.state l.live.host) l.live.calls.calls) c.test.result c.test.ensures.some c.as_slice.ensures.value
    c.as_slice-fired.result.now c.as_slice-nodes.result.now (c.as_slice-fired.ensures.value ∙ c.test.ensures.fired) c.as_slice-nodes.ensures
    (g.C.Callee.fixed l.live.host) l.invariant.fixed c.args.most c.args.past.now.last.items (seen_of live.words.items (g.C.Callee.state live.host) live.calls.calls)
    l.invariant.same (omega (arith, c.loop-run-test.true)) c.if-not-test.false
    l.live.calls.room live.calls.room l.invariant.place c.requires.fits

pub loop-run-preserved : goal.loop-run-preserved
loop-run-preserved g c =
    let b = c.args.built.now in
    let l = c.loop-run in
    let live = c.args.live.now in
    let next = c.run_nodes.new.live in
    record {
      room = c.run_nodes.ensures.room ∙ l.invariant.room;
      fixed = c.run_nodes.ensures.fixed ∙ l.invariant.fixed;
      words = c.run_nodes.ensures.words ∙ l.invariant.words;
      last = ap (λ (ws : List ℕ). length ws) (c.test.ensures.last ∙ c.as_slice.ensures.value) ∙ l.invariant.words ∙ c.requires.words ∙ sym c.requires.last;
      fired = ap (λ (fs : List Bool). length fs) c.test.ensures.fired ∙ length-map b.design.procs (λ (p : Proc). kind_fires b.layout.words.items l.past.last.items c.as_slice.result.now p.kind) ∙ sym c.requires.fired;
      place = c.run_nodes.ensures.place ∙ l.invariant.place;
      same =
          goes_from g.C.Callee.answer g.C.Callee.after b.ids c.args.tables.now.widths.items b.deemed b (g.C.Callee.fixed live.host) (c.args.most - l.run) l.past.last.items
          c.as_slice.result.now (seen_of l.live.words.items (g.C.Callee.state l.live.host) l.live.calls.calls) c.test.result c.test.ensures.some c.as_slice.ensures.value
          c.as_slice-fired.result.now c.as_slice-nodes.result.now (c.as_slice-fired.ensures.value ∙ c.test.ensures.fired) c.as_slice-nodes.ensures
          (g.C.Callee.fixed l.live.host) l.invariant.fixed c.args.most c.args.past.now.last.items (seen_of live.words.items (g.C.Callee.state live.host) live.calls.calls)
          l.invariant.same (omega (arith, c.loop-run-test.true)) c.if-not-test.false
          (c.args.most - (l.run + 1)) c.test.new.past.last.items (seen_of next.words.items (g.C.Callee.state next.host) next.calls.calls)
          (omega (arith, c.loop-run-test.true)) c.test.ensures.last c.run_nodes.ensures.run;
    }
