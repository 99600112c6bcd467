use Rattle.std.proofs.Common.{sym, ◌∙◌}
use Rattle.std.specs.Prelude.{is_some}
use Rattle.sim_session.proofs.EndLaws.{all_of, none_of}
use Rattle.sim_session.proofs.Wanting.{header_is, no_header}
use Rattle.sim_session.proofs.whole.write_header.Goals as goal

pub returns-clause-wrote : goal.returns-clause-wrote
returns-clause-wrote g c =
    let is = sym c.is_some.ensures ∙ c.if-not-is_some.false in
    all_of _ _ _ c.write_piece.result _ _ (header_is (is_some c.args.texts.now.vcd) c.args.design.now _ is (c.requires.text is)) c.write_piece.ensures.wrote

pub returns-then-not-is_some-clause-wrote : goal.returns-then-not-is_some-clause-wrote
returns-then-not-is_some-clause-wrote g c = none_of _ _ (no_header (is_some c.args.texts.now.vcd) c.args.design.now (sym c.is_some.ensures ∙ c.if-not-is_some.true))
