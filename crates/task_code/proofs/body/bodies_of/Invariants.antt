use Rattle.std.proofs.Common.{take, length}
use Rattle.std.specs.List.{All}
use Rattle.task_eval.specs.Soundness.{IsWithin}
use Rattle.task_code.specs.Compiled.{Each, IsBody}
use Rattle.task_code.proofs.body.bodies_of.Given as goal

abbrev pub invariant-loop-process : goal.invariant-loop-process
invariant-loop-process l =
    All (λ code. IsWithin (length l.base.words.now) (length l.base.design.now.imports) code.ops) l.codes.items
    × Each (IsBody l.base.words.now) (take l.process-index l.base.design.now.procs) l.codes.items
