use Rattle.std.proofs.Common.{◌≡◌, ap, sym, ◌∙◌, subst, map, List}
use Rattle.vs_base.specs.Number.{Number}
use Rattle.rtl_ir.specs.declared.design.Port.{Port}
use Rattle.plan_types.specs.declared.built.Built.{Built}
use Rattle.plan_types.specs.Machine.{IsInput, evaluated, converges}
use Rattle.sim_session.specs.Inputs.{inputs_at}
use Rattle.sim_session.proofs.Gathered.{inputs_width}
use Rattle.sim_session.proofs.eval.evaluate.Goals as goal

pub eval-requires : goal.eval-requires
eval-requires g c =
    let d = c.args.built.now.design in
    let put : c.as_slice-2.result.now ≡ inputs_at d.ports c.args.set.now = c.as_slice-2.ensures.value ∙ c.gather.ensures.items ∙ ap (λ (ports : List Port). inputs_at ports c.args.set.now) c.as_slice.ensures in
    subst (λ (b : Built). IsInput b.design c.as_slice-2.result.now) (sym c.requires.same)
    (ap (λ (l : List Number). map (λ (n : Number). n.width) l) put ∙ inputs_width d.vars d.ports c.args.set.now c.requires.set)

pub returns-clause-machine : goal.returns-clause-machine
returns-clause-machine g c =
    let d = c.args.built.now.design in
    let m = g.R.Runner.machine c.args.runner.now in
    let put : c.as_slice-2.result.now ≡ inputs_at d.ports c.args.set.now = c.as_slice-2.ensures.value ∙ c.gather.ensures.items ∙ ap (λ (ports : List Port). inputs_at ports c.args.set.now) c.as_slice.ensures in
    c.eval.ensures.machine ∙ (λ i. evaluated g.R.Host.Host.answer g.R.Host.Host.after (c.requires.same i) (put i) m)

pub returns-clause-converges : goal.returns-clause-converges
returns-clause-converges g c =
    let d = c.args.built.now.design in
    let m = g.R.Runner.machine c.args.runner.now in
    let put : c.as_slice-2.result.now ≡ inputs_at d.ports c.args.set.now = c.as_slice-2.ensures.value ∙ c.gather.ensures.items ∙ ap (λ (ports : List Port). inputs_at ports c.args.set.now) c.as_slice.ensures in
    c.eval.ensures.converges ∙ (λ i. converges g.R.Host.Host.answer g.R.Host.Host.after (c.requires.same i) (put i) m)
