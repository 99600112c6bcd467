use Rattle.std.proofs.Common.{◌+◌, List, take, sym, subst}
use Rattle.logic_graph.specs.declared.ranges.Touched.{Touched}
use Rattle.task_code.specs.Compiled.{Each}
use Rattle.model_build.specs.Touching.{IsTouched}
use Rattle.model_build.proofs.Touch.{each_more}
use Rattle.model_build.proofs.touched.all_touched.Goals as goal

pub loop-proc-preserved : goal.loop-proc-preserved
loop-proc-preserved c =
    subst (λ (ts : List Touched). Each (IsTouched c.args.ground.line.now c.args.ground.design.now.procs c.args.ground.places.now) (take (c.loop-proc.proc-index + 1) c.args.procs.now) ts) (sym c.in_ok-push.ensures.items)
    (each_more (IsTouched c.args.ground.line.now c.args.ground.design.now.procs c.args.ground.places.now) c.args.procs.now c.loop-proc.all.items c.loop-proc.proc-index c.in_ok-touched.field-0 c.loop-proc-test.true c.loop-proc.invariant c.in_ok-touched.ensures)
