use Rattle.std.proofs.Common.{◌≡◌, take}
use Rattle.task_eval.specs.Codes.{deepest}
use Rattle.task_eval.proofs.frame.deepest_of.Given as goal

abbrev pub invariant-loop-code : goal.invariant-loop-code
invariant-loop-code l = l.most ≡ deepest (take l.code-index l.codes)
