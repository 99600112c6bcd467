use Rattle.std.proofs.Common.{◌∙◌, sym, ap}
use Rattle.sv_tree.specs.Symbol.{is_parameter}
use Rattle.parse_item.proofs.Rules.{parameters_item}
use Rattle.parse_item.proofs.declarations.parameters.Goals as goal

pub returns-clause-reads : goal.returns-clause-reads
returns-clause-reads c =
    parameters_item c.in_ok-kind.kind c.in_ok-settings.settings c.requires.deep (ap is_parameter (sym c.peek.ensures) ∙ sym c.if-not-is_parameter.ensures)
    c.in_ok-word.ensures.token c.in_ok-kind.ensures.reads c.in_ok-settings.ensures.reads c.in_ok-semicolon.ensures.token
