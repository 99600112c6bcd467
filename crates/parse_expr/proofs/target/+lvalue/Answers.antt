use Rattle.parse_expr.proofs.TargetRules.{rule_targets, closes_targets}
use Rattle.parse_expr.proofs.target.+lvalue.Goals as goal

pub commas-preserved : goal.commas-preserved
commas-preserved t c =
    rw c.in_ok-push.ensures.more (record {
      first = c.commas.invariant.first;
      more = rule_targets c.commas.more c.in_ok-target.target c.in_ok-opening.ensures.deep c.commas.invariant.more c.in_ok-comma.ensures.token c.in_ok-target.ensures.reads;
    })

pub returns-clause-reads : goal.returns-clause-reads
returns-clause-reads t c =
    closes_targets c.args.depth c.concat.new.at c.concat.result _ c.commas.more c.in_ok-opening.ensures.deep c.commas.invariant.first c.commas.invariant.more c.concat.ensures.made
