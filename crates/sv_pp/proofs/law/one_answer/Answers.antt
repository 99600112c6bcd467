use Rattle.sv_pp.proofs.Answers.{one_tokens, one_fault, tokens_apart}
use Rattle.sv_pp.proofs.law.one_answer.Goals as goal

pub returns : goal.returns
returns c = record { tokens = one_tokens; fault = one_fault; apart = tokens_apart }
