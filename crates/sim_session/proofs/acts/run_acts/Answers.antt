use Rattle.std.proofs.Common.{◌-◌, List, sym, ap, subst, arith, length, take, drop}
use Rattle.vs_base.specs.Number.{Number}
use Rattle.stimulus.specs.Stimulus.{design_ports}
use Rattle.sim_session.specs.Inputs.{act_inputs, after_act, inputs_from}
use Rattle.sim_session.specs.Ready.{IsOpened}
use Rattle.sim_session.proofs.Going.{going_start, going_more, going_cut, going_same}
use Rattle.sim_session.proofs.Sets.{acts_turn, evals_turn, fits_rest, act_length}
use Rattle.sim_session.proofs.acts.run_acts.Goals as goal

pub acts-init : goal.acts-init
acts-init g c = record {
  same = c.requires.same;
  ready = c.requires.ready;
  opened = c.requires.opened;
  fits = c.requires.fits;
  few = c.requires.few;
  going = going_start _ _ _;
}

pub returns-in-Err-clause-ran : goal.returns-in-Err-clause-ran
returns-in-Err-clause-ran g c =
    let d = c.args.built.now.design in
    let set = c.acts.session.set.items in
    let act = c.act-item.result in
    let rest = c.acts.rest.now in
    going_cut _ (act_inputs d act set) (inputs_from d (take (length rest - 1) (drop 1 rest)) (after_act d act set)) _ c.in-Err.fault _ _ _
    (going_same _ _ _ _ _ _ (acts_turn d rest act set c.in-len1-up.len_at_least c.act-item.is) c.acts.invariant.going)
    c.in-Err.ensures.ran

pub acts-preserved : goal.acts-preserved
acts-preserved g c =
    let d = c.args.built.now.design in
    let set = c.acts.session.set.items in
    let act = c.act-item.result in
    let rest = c.acts.rest.now in
    let some = c.in-len1-up.len_at_least in
    let e = c.in-Ok.ensures in
    let i = c.acts.invariant in
    record {
      same = e.same;
      ready = e.ready;
      opened = subst (λ made. IsOpened c.args.texts.now made) (sym e.ran.made) i.opened;
      fits = fits_rest (design_ports d) rest some i.fits;
      few = let n = e.ran.number in let more = evals_turn rest act some c.act-item.is in let many = act_length d act set in let few = i.few in omega arith;
      going = going_same _ _ _ _ _ _ (ap (λ (l : List Number). inputs_from d (take (length rest - 1) (drop 1 rest)) l) (sym e.set))
          (going_more _ (act_inputs d act set) (inputs_from d (take (length rest - 1) (drop 1 rest)) (after_act d act set)) _ _ _ _
          (going_same _ _ _ _ _ _ (acts_turn d rest act set some c.act-item.is) i.going)
          e.ran);
    }
