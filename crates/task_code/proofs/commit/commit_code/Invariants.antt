use Rattle.std.proofs.Common.{◌≡◌, drop}
use Rattle.rtl_pieces.specs.Line.{has, place_of}
use Rattle.task_code.specs.Compiled.{CopiesFrom}
use Rattle.task_code.proofs.commit.commit_code.Given as goal

abbrev pub invariant-loop-number : goal.invariant-loop-number
invariant-loop-number l =
    CopiesFrom l.written.words.now (λ word. has (place_of l.written.line.now word.holds) l.written.ranges.now) l.number (drop l.number l.written.words.now) l.out.ops
    × (l.out.depth ≡ 0) × (l.out.held.limits ≡ l.limits)
