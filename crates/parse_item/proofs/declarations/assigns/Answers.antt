use Rattle.parse_item.proofs.Rules.{assigns_item}
use Rattle.parse_item.proofs.declarations.assigns.Goals as goal

pub returns-clause-reads : goal.returns-clause-reads
returns-clause-reads c =
    assigns_item c.in_ok-assignments.assignments c.requires.deep c.in_ok-word.ensures.token c.in_ok-assignments.ensures.reads c.in_ok-semicolon.ensures.token
