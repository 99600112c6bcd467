use Rattle.std.proofs.Common.{Bool, List, ◌≤◌, length, ap, subst, ◌∙◌, take_all}
use Rattle.std.specs.List.{list_any}
use Rattle.rtl_ir.specs.declared.design.Proc.{Proc}
use Rattle.plan_types.specs.Machine.{fired_of}
use Rattle.plain_runner.proofs.edges.fire.Goals as goal

pub returns-clause-any : goal.returns-clause-any
returns-clause-any c =
    c.loop-proc.invariant.any
    ∙ ap (λ (procs : List Proc). list_any (λ (f : Bool). f) (fired_of procs c.args.built.now.layout.words.items c.args.last.now c.args.now.now))
    (take_all c.loop-proc.proc c.args.built.now.design.procs (subst (λ (procs : List Proc). length procs ≤ c.loop-proc.proc) c.as_slice-procs.ensures c.loop-proc-test.false))
