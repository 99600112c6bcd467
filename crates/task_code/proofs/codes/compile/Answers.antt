use Rattle.std.proofs.Common.{subst, drop, length}
use Rattle.rtl_pieces.specs.Bits.{line_in, writes}
use Rattle.rtl_pieces.specs.Line.{place_of}
use Rattle.task_code.specs.Compiled.{Each, IsCommit, clocked_from}
use Rattle.task_code.proofs.codes.compile.Goals as goal

pub returns-in-Ok-clause-commits : goal.returns-in-Ok-clause-commits
returns-in-Ok-clause-commits c =
    subst (λ ws. Each (λ p. IsCommit ws (λ word. writes (line_in c.args.design.now) c.args.design.now.procs p (place_of (line_in c.args.design.now) word.holds))) (clocked_from 0 c.args.design.now.procs) (drop (length c.args.design.now.procs) c.in-Ok.codes.items))
    c.as_slice.ensures.value c.in-Ok.ensures.commits
