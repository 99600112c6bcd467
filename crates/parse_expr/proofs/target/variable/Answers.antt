use Rattle.parse_expr.proofs.TargetRules.{rule_variable}
use Rattle.parse_expr.proofs.target.variable.Goals as goal

pub returns-clause-reads : goal.returns-clause-reads
returns-clause-reads c = rule_variable c.in_ok-selects.selects c.requires.deep c.in_ok-name.ensures.token c.in_ok-selects.ensures.reads
