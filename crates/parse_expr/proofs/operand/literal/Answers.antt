use Rattle.parse_expr.proofs.Rules.{rule_decimal, rule_based, rule_fill, rule_sized}
use Rattle.parse_expr.proofs.operand.literal.Goals as goal

pub returns-in-Some-take_if-clause-reads : goal.returns-in-Some-take_if-clause-reads
returns-in-Some-take_if-clause-reads c = rule_sized c.requires.deep c.in-Some.ensures c.in-Some-take_if.ensures

pub returns-in-Some-clause-reads : goal.returns-in-Some-clause-reads
returns-in-Some-clause-reads c = let k = c.in_default-take_if.ensures in rw k.0 (rule_decimal c.requires.deep c.in-Some.ensures)

pub returns-in-Some-take_if-2-clause-reads : goal.returns-in-Some-take_if-2-clause-reads
returns-in-Some-take_if-2-clause-reads c = rule_based c.requires.deep (rw c.in_default.ensures.0 at c.in-Some-take_if-2.ensures)

pub returns-clause-reads : goal.returns-clause-reads
returns-clause-reads c = rule_fill c.requires.deep (rw (c.in_default-take_if-2.ensures.0, c.in_default.ensures.0) at c.in_ok-fill.ensures.token)
