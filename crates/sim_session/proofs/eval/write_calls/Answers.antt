use Rattle.std.proofs.Common.{◌≤◌, List, ap, sym, ◌∙◌, subst, vec_capacity}
use Rattle.std.specs.Prelude.{is_some}
use Rattle.rtl_ir.specs.declared.design.Import.{Import}
use Rattle.plan_types.specs.Room.{call_room}
use Rattle.sim_session.specs.CallLines.{call_lines}
use Rattle.sim_session.specs.Rooms.{longest, lines_room}
use Rattle.sim_session.proofs.EndLaws.{all_of, none_of}
use Rattle.sim_session.proofs.Wanting.{calls_are, no_calls}
use Rattle.sim_session.proofs.Rooming.{fewer_lines}
use Rattle.sim_session.proofs.eval.write_calls.Goals as goal

pub returns-clause-wrote : goal.returns-clause-wrote
returns-clause-wrote g c =
    all_of _ _ _ c.write_log.result _ _
    (calls_are (is_some c.args.texts.now.calls) c.args.built.now.design c.args.number c.args.calls.now _ (sym c.is_some.ensures ∙ c.if-not-is_some.false) (c.as_slice-2.ensures.value ∙ c.put_calls.ensures.items ∙ ap (λ (imports : List Import). call_lines imports c.args.number c.args.calls.now) c.as_slice.ensures))
    c.write_log.ensures.wrote

pub returns-then-not-is_some-clause-wrote : goal.returns-then-not-is_some-clause-wrote
returns-then-not-is_some-clause-wrote g c =
    none_of _ _ (no_calls (is_some c.args.texts.now.calls) c.args.built.now.design c.args.number c.args.calls.now (sym c.is_some.ensures ∙ c.if-not-is_some.true))

pub put_calls-requires : goal.put_calls-requires
put_calls-requires g c =
    subst (λ (imports : List Import). lines_room (longest imports) c.args.calls.now ≤ vec_capacity c.args.out.now.log) (sym c.as_slice.ensures)
    (fewer_lines c.args.calls.now (call_room c.args.built.now) (longest c.args.built.now.design.imports) _ c.requires.calls (c.requires.room.log (sym c.is_some.ensures ∙ c.if-not-is_some.false)))
