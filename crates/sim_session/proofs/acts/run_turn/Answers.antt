use Rattle.std.proofs.Common.{List, refl, ap, sym, subst}
use Rattle.vs_base.specs.Number.{Number}
use Rattle.sim_session.specs.Inputs.{number_inputs, with_number}
use Rattle.sim_session.specs.Ready.{IsOpened}
use Rattle.sim_session.proofs.EvalLaws.{ran_from, ran_more, stopped_early}
use Rattle.sim_session.proofs.acts.run_turn.Goals as goal

pub run_number-requires-in-Ok-clause-opened : goal.run_number-requires-in-Ok-clause-opened
run_number-requires-in-Ok-clause-opened g c κs held = subst (λ made. IsOpened c.args.texts.now made) (sym c.in-Ok.ensures.ran.made) c.requires.opened

pub returns-in-Ok-clause-ran : goal.returns-in-Ok-clause-ran
returns-in-Ok-clause-ran g c =
    let d = c.args.built.now.design in
    let set = c.args.session.now.set.items in
    ran_more _ (number_inputs d c.args.place 1 set) (number_inputs d c.args.place 0 (with_number d c.args.place 1 set)) c.run_number-in-Ok.result _ _ _ c.in-Ok.ensures.ran
    (ran_from _ _ _ c.run_number-in-Ok.result _ _ _ (ap (λ (l : List Number). number_inputs d c.args.place 0 l) c.in-Ok.ensures.set) refl c.run_number-in-Ok.ensures.ran)

pub returns-in-Err-clause-ran : goal.returns-in-Err-clause-ran
returns-in-Err-clause-ran g c =
    let d = c.args.built.now.design in
    let set = c.args.session.now.set.items in
    stopped_early _ (number_inputs d c.args.place 1 set) (number_inputs d c.args.place 0 (with_number d c.args.place 1 set)) c.in-Err.fault _ _ c.in-Err.ensures.ran
