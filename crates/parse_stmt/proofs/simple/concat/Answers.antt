use Rattle.std.proofs.lemmas.Result.{IfOk-weaker}
use Rattle.parse_stmt.proofs.simple.concat.Goals as goal

pub returns-clause-reads : goal.returns-clause-reads
returns-clause-reads c = IfOk-weaker c.assignment.result _ _ (λ s h. h _ c.requires.first c.in_ok-target.ensures.reads) c.assignment.ensures.reads
