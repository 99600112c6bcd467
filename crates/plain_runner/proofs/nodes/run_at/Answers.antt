use Rattle.std.proofs.Common.{ℕ, length, Option, sym, ap, subst, arith}
use Rattle.task_eval.specs.Codes.{Ops}
use Rattle.plan_types.specs.Coded.{AllWithin}
use Rattle.plan_types.specs.Machine.{course_if}
use Rattle.plain_runner.specs.Seen.{seen_of, env_of, go}
use Rattle.plain_runner.proofs.Codes.{stack_within, within_at}
use Rattle.plain_runner.proofs.nodes.run_at.Goals as goal

pub run_code-requires-clause-room : goal.run_code-requires-clause-room
run_code-requires-clause-room g c =
    let deep = stack_within c.args.built.now.codes c.args.number c.in-Some.code.now (sym c.in-Some.ensures.value) in
    let room = c.requires.room in
    omega arith

pub run_code-requires-clause-within : goal.run_code-requires-clause-within
run_code-requires-clause-within g c =
    let b = c.args.built.now in
    within_at _ _ b.codes c.args.number c.in-Some.code.now (subst (λ (n : ℕ). AllWithin n (length b.ids) b.codes) (sym c.requires.words) b.within) (sym c.in-Some.ensures.value)

pub returns-in-None-clause-run : goal.returns-in-None-clause-run
returns-in-None-clause-run g c =
    ap (λ (o : Option Ops). go g.C.Callee.answer g.C.Callee.after (env_of (g.C.Callee.fixed c.args.live.now.host) c.args.built.now.ids c.args.tables.now.widths.items c.args.built.now.deemed) (course_if o) (seen_of c.args.live.now.words.items (g.C.Callee.state c.args.live.now.host) c.args.live.now.calls.calls)) c.in-None.ensures.value
