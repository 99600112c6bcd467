use Rattle.sv_pp.proofs.Answers.{some_answer}
use Rattle.sv_pp.proofs.law.tokens_or_fault.Goals as goal

pub returns : goal.returns
returns c = some_answer
