use Rattle.std.proofs.Common.{◌-◌, List, refl, sym, ap, ◌∙◌, subst, arith}
use Rattle.vs_base.specs.Number.{Number}
use Rattle.sim_session.specs.Inputs.{turn_inputs, turns_inputs, after_turns, lowered}
use Rattle.sim_session.specs.Ready.{IsOpened}
use Rattle.sim_session.proofs.Going.{going_start, going_more, going_cut, going_same, going_end}
use Rattle.sim_session.proofs.Sets.{turns_step, turns_end, after_step}
use Rattle.sim_session.proofs.acts.run_turns.Goals as goal

pub turns-init : goal.turns-init
turns-init g c = record {
  same = c.requires.same;
  ready = c.requires.ready;
  opened = c.requires.opened;
  few = c.requires.few;
  set = refl;
  going = going_start _ _ _;
}

pub returns-in-Err-clause-ran : goal.returns-in-Err-clause-ran
returns-in-Err-clause-ran g c =
    let d = c.args.built.now.design in
    let set = c.turns.session.set.items in
    going_cut _ (turn_inputs d c.args.place set) (turns_inputs d c.args.place (c.turns.left - 1) (lowered d c.args.place set)) _ c.in-Err.fault _ _ _
    (going_same _ _ _ _ _ _ (turns_step d c.args.place c.turns.left set c.turns-test.true) c.turns.invariant.going)
    c.in-Err.ensures.ran

pub returns-clause-ran : goal.returns-clause-ran
returns-clause-ran g c =
    going_end _ _ _ _
    (going_same _ _ _ _ _ _ (turns_end c.args.built.now.design c.args.place c.turns.left c.turns.session.set.items c.turns-test.false) c.turns.invariant.going)

pub turns-preserved : goal.turns-preserved
turns-preserved g c =
    let d = c.args.built.now.design in
    let set = c.turns.session.set.items in
    let e = c.in-Ok.ensures in
    let i = c.turns.invariant in
    let some = c.turns-test.true in
    record {
      same = e.same;
      ready = e.ready;
      opened = subst (λ made. IsOpened c.args.texts.now made) (sym e.ran.made) i.opened;
      few = let n = e.ran.number in let few = i.few in omega arith;
      set = ap (λ (l : List Number). after_turns d c.args.place (c.turns.left - 1) l) e.set ∙ sym (after_step d c.args.place c.turns.left set some) ∙ i.set;
      going = going_same _ _ _ _ _ _ (ap (λ (l : List Number). turns_inputs d c.args.place (c.turns.left - 1) l) (sym e.set))
          (going_more _ (turn_inputs d c.args.place set) (turns_inputs d c.args.place (c.turns.left - 1) (lowered d c.args.place set)) _ _ _ _
          (going_same _ _ _ _ _ _ (turns_step d c.args.place c.turns.left set some) i.going)
          e.ran);
    }
