use Rattle.vs_world.specs.declared.world.Stream.TheVariants.{Calls}
use Rattle.sim_session.proofs.EndLaws.{all_of, none_of}
use Rattle.sim_session.proofs.Wanting.{text_is, no_text}
use Rattle.sim_session.proofs.eval.write_log.Goals as goal

pub returns-then-text-gt0-clause-wrote : goal.returns-then-text-gt0-clause-wrote
returns-then-text-gt0-clause-wrote g c = all_of _ _ _ c.write_piece.result _ _ (text_is Calls c.args.text.now c.if-text-gt0.true) c.write_piece.ensures.wrote

pub returns-clause-wrote : goal.returns-clause-wrote
returns-clause-wrote g c = none_of _ _ (no_text Calls c.args.text.now c.if-text-gt0.false)
