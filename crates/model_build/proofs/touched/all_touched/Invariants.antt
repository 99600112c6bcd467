use Rattle.std.proofs.Common.{take}
use Rattle.task_code.specs.Compiled.{Each}
use Rattle.model_build.specs.Touching.{IsTouched}
use Rattle.model_build.proofs.touched.all_touched.Given as goal

abbrev pub invariant-loop-proc : goal.invariant-loop-proc
invariant-loop-proc l = Each (IsTouched l.ground.line.now l.ground.design.now.procs l.ground.places.now) (take l.proc-index l.procs) l.all.items
