use Rattle.std.proofs.Common.{take, length}
use Rattle.std.specs.List.{All}
use Rattle.task_eval.specs.Soundness.{IsWithin}
use Rattle.rtl_pieces.specs.Bits.{line_in, writes}
use Rattle.rtl_pieces.specs.Line.{place_of}
use Rattle.task_code.specs.Compiled.{Each, IsCommit, clocked_from}
use Rattle.task_code.proofs.commits.commits_of.Given as goal

abbrev pub invariant-loop-number : goal.invariant-loop-number
invariant-loop-number l =
    All (λ code. IsWithin (length l.base.words.now) (length l.base.design.now.imports) code.ops) l.codes.items
    × Each (λ p. IsCommit l.base.words.now (λ word. writes (line_in l.base.design.now) l.base.design.now.procs p (place_of (line_in l.base.design.now) word.holds))) (clocked_from 0 (take l.number l.base.design.now.procs)) l.codes.items
