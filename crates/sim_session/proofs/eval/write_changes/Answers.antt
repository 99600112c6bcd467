use Rattle.std.proofs.Common.{sym, ◌∙◌}
use Rattle.std.specs.Prelude.{is_some}
use Rattle.sim_session.proofs.EndLaws.{all_of, none_of}
use Rattle.sim_session.proofs.Wanting.{changes_are, no_changes}
use Rattle.sim_session.proofs.eval.write_changes.Goals as goal

pub returns-clause-wrote : goal.returns-clause-wrote
returns-clause-wrote g c =
    all_of _ _ _ c.write_piece.result _ _
    (changes_are (is_some c.args.texts.now.vcd) c.args.built.now.design c.args.number c.args.old.now c.args.new.now _ (sym c.is_some.ensures ∙ c.if-not-is_some.false) c.change-text.ensures.text)
    c.write_piece.ensures.wrote

pub returns-then-not-is_some-clause-wrote : goal.returns-then-not-is_some-clause-wrote
returns-then-not-is_some-clause-wrote g c =
    none_of _ _ (no_changes (is_some c.args.texts.now.vcd) c.args.built.now.design c.args.number c.args.old.now c.args.new.now (sym c.is_some.ensures ∙ c.if-not-is_some.true))
