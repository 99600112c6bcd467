use Rattle.std.proofs.Common.{◌≡◌, ◌+◌, ◌*◌, ◌-◌, true, map, length}
use Rattle.sv_tree.specs.TreeRead.{all_of}
use Rattle.sv_tree.specs.TreeExpr.{is_empty}
use Rattle.sv_tree.specs.TreeItem.{item_read, item_branch_read}
use Rattle.sv_tree.specs.TreeStmt.{texts}
use Rattle.parse_expr.specs.Parsed.{Parsed}
use Rattle.sv_parse.proofs.items.+item.Given as goal

abbrev pub decreases-item : goal.decreases-item
decreases-item l = (200 - l.depth) * 8

abbrev pub decreases-items : goal.decreases-items
decreases-items l = (200 - l.depth) * 8 + 1

abbrev pub decreases-gen_block : goal.decreases-gen_block
decreases-gen_block l = (200 - l.depth) * 8 + 1

abbrev pub decreases-generate : goal.decreases-generate
decreases-generate l = (200 - l.depth) * 8 + 2

abbrev pub decreases-item_for : goal.decreases-item_for
decreases-item_for l = (200 - l.depth) * 8 + 2

abbrev pub decreases-item_chain : goal.decreases-item_chain
decreases-item_chain l = (200 - l.depth) * 8 + 2

abbrev pub invariant-items-items : goal.invariant-items-items
invariant-items-items l = record {
  reads : Parsed l.source l.depth l.initial.at l.at (texts (map item_read l.items));
}

abbrev pub decreases-items-items : goal.decreases-items-items
decreases-items-items l = length l.source.tokens - l.at

abbrev pub invariant-item_chain-branches : goal.invariant-item_chain-branches
invariant-item_chain-branches l = record {
  reads : Parsed l.source l.depth l.initial.at l.at (all_of (map item_branch_read l.branches));
  begun : is_empty l.branches ≡ true → l.at ≡ l.initial.at;
}

abbrev pub decreases-item_chain-branches : goal.decreases-item_chain-branches
decreases-item_chain-branches l = length l.source.tokens - l.at
