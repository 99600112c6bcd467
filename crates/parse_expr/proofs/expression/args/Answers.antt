use Rattle.parse_expr.proofs.Rules.{rule_no_args}
use Rattle.parse_expr.proofs.Closings.{makes_listed}
use Rattle.parse_expr.proofs.expression.args.Goals as goal

pub returns-then-sees-clause-reads : goal.returns-then-sees-clause-reads
returns-then-sees-clause-reads c = rule_no_args c.requires.within

pub returns-clause-reads : goal.returns-clause-reads
returns-clause-reads c = makes_listed c.listed.result c.in_ok-operands.operands.first c.in_ok-operands.operands.more c.in_ok-operands.ensures.reads c.listed.ensures.made
