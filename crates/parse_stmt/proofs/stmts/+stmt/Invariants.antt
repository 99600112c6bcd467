use Rattle.std.proofs.Common.{◌≡◌, ◌+◌, ◌*◌, ◌-◌, true, map, length}
use Rattle.sv_tree.specs.TreeRead.{all_of}
use Rattle.sv_tree.specs.TreeExpr.{is_empty}
use Rattle.sv_tree.specs.TreeStmt.{texts, stmt_read, branch_read, arm_read}
use Rattle.parse_expr.specs.Parsed.{Parsed}
use Rattle.parse_stmt.proofs.stmts.+stmt.Given as goal

abbrev pub decreases-stmt : goal.decreases-stmt
decreases-stmt l = (200 - l.depth) * 8

abbrev pub decreases-block : goal.decreases-block
decreases-block l = (200 - l.depth) * 8 + 1

abbrev pub decreases-if_chain : goal.decreases-if_chain
decreases-if_chain l = (200 - l.depth) * 8 + 1

abbrev pub decreases-for_loop : goal.decreases-for_loop
decreases-for_loop l = (200 - l.depth) * 8 + 1

abbrev pub decreases-arms : goal.decreases-arms
decreases-arms l = (200 - l.depth) * 8 + 1

abbrev pub decreases-case : goal.decreases-case
decreases-case l = (200 - l.depth) * 8 + 2

abbrev pub invariant-block-body : goal.invariant-block-body
invariant-block-body l = record {
  reads : Parsed l.source l.depth l.initial.at l.at (texts (map stmt_read l.body));
}

abbrev pub decreases-block-body : goal.decreases-block-body
decreases-block-body l = length l.source.tokens - l.at

abbrev pub invariant-if_chain-branches : goal.invariant-if_chain-branches
invariant-if_chain-branches l = record {
  reads : Parsed l.source l.depth l.initial.at l.at (all_of (map branch_read l.branches));
  begun : is_empty l.branches ≡ true → l.at ≡ l.initial.at;
}

abbrev pub decreases-if_chain-branches : goal.decreases-if_chain-branches
decreases-if_chain-branches l = length l.source.tokens - l.at

abbrev pub invariant-arms-arms : goal.invariant-arms-arms
invariant-arms-arms l = record {
  reads : Parsed l.source l.depth l.initial.at l.at (all_of (map arm_read l.arms));
}

abbrev pub decreases-arms-arms : goal.decreases-arms-arms
decreases-arms-arms l = length l.source.tokens - l.at
