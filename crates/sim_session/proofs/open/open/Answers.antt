use Rattle.std.proofs.Common.{List, ap, ◌∙◌, subst, map, length, arith}
use Rattle.vs_base.specs.Number.{Number}
use Rattle.rtl_pieces.specs.declared.layout.Word.{Word}
use Rattle.sim_session.specs.Inputs.{opening_ports}
use Rattle.sim_session.specs.Ready.{IsOrdinary}
use Rattle.sim_session.proofs.Sets.{opening_width}
use Rattle.sim_session.proofs.open.open.Goals as goal

pub returns-clause-ready : goal.returns-clause-ready
returns-clause-ready g c =
    let d = c.args.built.now.design in
    record {
      set = ap (λ (l : List Number). map (λ (n : Number). n.width) l) (c.in-Ok.ensures ∙ (λ i. opening_ports (c.as_slice-vars.ensures i) (c.as_slice-ports.ensures i))) ∙ opening_width d.vars d.ports;
      before = c.in-Ok-opening_values.ensures.values;
      inputs_room = let room = c.in-Ok-with_capacity.ensures.exact in let same = ap length c.as_slice-ports.ensures in omega (arith, room, same);
      before_room = c.in-Ok-opening_values.ensures.room;
      after_room = let room = c.in-Ok-with_capacity-2.ensures.exact in let same = ap length c.as_slice-vars.ensures in omega (arith, room, same);
      out = c.in-Ok-output.ensures.room;
      count = let none = c.in-Ok-output.ensures.done in omega (arith, none);
      words = c.requires.words;
      ordinary = subst (λ (ws : List Word). IsOrdinary ws) c.as_slice.ensures.value (c.is_ordinary.ensures c.if-not-is_ordinary.false);
    }
