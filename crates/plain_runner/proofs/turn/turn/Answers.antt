use Rattle.std.proofs.Common.{◌≡◌, ◌<◌, ℕ, List, length, ap, ◌∙◌, arith}
use Rattle.task_eval.specs.Frames.{going}
use Rattle.plain_runner.specs.Seen.{seen_of, env_of}
use Rattle.plain_runner.proofs.Grows.{call_fits}
use Rattle.plain_runner.proofs.turn.turn.Goals as goal

pub load-value-requires : goal.load-value-requires
load-value-requires g c =
    let there : c.in-Load.word < length c.args.live.now.words.items = c.in-Load.ensures.within _ _ c.requires.within in
    let same : length c.as_slice.result.now ≡ length c.args.live.now.words.items = ap (λ (ws : List ℕ). length ws) c.as_slice.ensures.value in
    omega arith

pub store-requires : goal.store-requires
store-requires g c =
    let there : c.in-Store.word < length c.args.live.now.words.items = c.in-Store.ensures.within _ _ c.requires.within in
    let same : length c.as_mut_slice.result.now ≡ length c.args.live.now.words.items = ap (λ (ws : List ℕ). length ws) c.as_mut_slice.ensures.value in
    omega arith

pub call-reply-requires-clause-there : goal.call-reply-requires-clause-there
call-reply-requires-clause-there g c = c.in-Call.ensures.within _ _ c.requires.within

pub call-reply-requires-clause-fits : goal.call-reply-requires-clause-fits
call-reply-requires-clause-fits g c =
    let b = c.args.built.now in
    let live = c.args.live.now in
    call_fits g.C.Callee.answer g.C.Callee.after (env_of (g.C.Callee.fixed live.host) b.ids c.args.tables.now.widths.items b.deemed) (going c.args.code.now c.args.frame.now)
    (seen_of live.words.items (g.C.Callee.state live.host) live.calls.calls) c.in-Call.import c.args-in-Call.result.now live.calls.room
    c.in-Call.ensures.asked (c.args-in-Call.ensures.value ∙ c.in-Call.ensures.next.2) c.requires.fits
