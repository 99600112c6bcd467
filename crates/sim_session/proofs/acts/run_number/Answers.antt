use Rattle.std.proofs.Common.{List, [], ◌∷◌, ap, ◌∙◌}
use Rattle.std.specs.Prelude.{slice_set}
use Rattle.std.proofs.lemmas.Result.{on_ok_weaker}
use Rattle.vs_base.specs.Number.{Number}
use Rattle.sim_session.specs.Inputs.{inputs_at}
use Rattle.sim_session.proofs.EvalLaws.{ran_from}
use Rattle.sim_session.proofs.Sets.{ready_set, stands}
use Rattle.sim_session.proofs.acts.run_number.Goals as goal

pub run_eval-requires-clause-ready : goal.run_eval-requires-clause-ready
run_eval-requires-clause-ready g c κs held =
    ready_set c.args.session.now c.set_port.new.session c.set_port.ensures.rest c.args.texts.now c.args.built.now (g.R.Runner.machine c.args.runner.now) c.args.place c.number_for.result
    c.requires.ready c.set_port.ensures.set (ap (λ (n : Number). n.width) c.number_for.ensures)

pub returns-clause-set : goal.returns-clause-set
returns-clause-set g c =
    on_ok_weaker c.run_eval.result (λ e. e ∙ c.set_port.ensures.set ∙ ap (λ (v : Number). slice_set c.args.session.now.set.items c.args.place v) c.number_for.ensures) c.run_eval.ensures.set

pub returns-clause-ran : goal.returns-clause-ran
returns-clause-ran g c =
    ran_from _ _ _ c.run_eval.result _ _ _
    (ap (λ (l : List Number). inputs_at c.args.built.now.design.ports l ∷ [])
    (c.set_port.ensures.set ∙ ap (λ (v : Number). slice_set c.args.session.now.set.items c.args.place v) c.number_for.ensures))
    (stands c.args.session.now c.set_port.new.session c.set_port.ensures.rest _ _)
    c.run_eval.ensures.ran
