use Rattle.std.proofs.Common.{◌≡◌, drop, map}
use Rattle.rtl_pieces.specs.Line.{items_in}
use Rattle.rtl_pieces.specs.Reads.{in_order}
use Rattle.rtl_pieces.specs.Writes.{arm_writes, branch_writes, stmt_writes}
use Rattle.rtl_pieces.proofs.writes.+writes.Given as goal

abbrev pub invariant-add_all_written-loop-stmt : goal.invariant-add_all_written-loop-stmt
invariant-add_all_written-loop-stmt l = in_order (map (stmt_writes (items_in l.line)) (drop l.stmt-index l.body)) l.found.items ≡ in_order (map (stmt_writes (items_in l.line)) l.body) l.initial.found.items

abbrev pub invariant-branches_written-loop-branch : goal.invariant-branches_written-loop-branch
invariant-branches_written-loop-branch l = in_order (map (branch_writes (items_in l.line)) (drop l.branch-index l.branches)) l.found.items ≡ in_order (map (branch_writes (items_in l.line)) l.branches) l.initial.found.items

abbrev pub invariant-arms_written-loop-arm : goal.invariant-arms_written-loop-arm
invariant-arms_written-loop-arm l = in_order (map (arm_writes (items_in l.line)) (drop l.arm-index l.arms)) l.found.items ≡ in_order (map (arm_writes (items_in l.line)) l.arms) l.initial.found.items
