use Rattle.sim_session.proofs.EndLaws.{then_or_stopped, stopped_before}
use Rattle.sim_session.proofs.eval.write_texts.Goals as goal

pub returns-in-Ok-clause-wrote : goal.returns-in-Ok-clause-wrote
returns-in-Ok-clause-wrote g c = then_or_stopped _ _ _ c.write_besides.result _ _ _ c.in-Ok.ensures.wrote.1 c.write_besides.ensures.wrote

pub returns-in-Err-clause-wrote : goal.returns-in-Err-clause-wrote
returns-in-Err-clause-wrote g c = stopped_before _ _ _ c.in-Err.fault _ _ c.in-Err.ensures.wrote
