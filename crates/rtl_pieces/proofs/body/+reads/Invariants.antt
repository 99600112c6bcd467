use Rattle.std.proofs.Common.{◌≡◌, drop, map}
use Rattle.rtl_pieces.specs.Line.{items_in}
use Rattle.rtl_pieces.specs.Reads.{in_order}
use Rattle.rtl_pieces.specs.Writes.{arm_reads, branch_reads, stmt_reads}
use Rattle.rtl_pieces.proofs.body.+reads.Given as goal

abbrev pub invariant-add_all_read-loop-stmt : goal.invariant-add_all_read-loop-stmt
invariant-add_all_read-loop-stmt l = in_order (map (stmt_reads (items_in l.line)) (drop l.stmt-index l.body)) l.found.items ≡ in_order (map (stmt_reads (items_in l.line)) l.body) l.initial.found.items

abbrev pub invariant-branches_read-loop-branch : goal.invariant-branches_read-loop-branch
invariant-branches_read-loop-branch l = in_order (map (branch_reads (items_in l.line)) (drop l.branch-index l.branches)) l.found.items ≡ in_order (map (branch_reads (items_in l.line)) l.branches) l.initial.found.items

abbrev pub invariant-arms_read-loop-arm : goal.invariant-arms_read-loop-arm
invariant-arms_read-loop-arm l = in_order (map (arm_reads (items_in l.line)) (drop l.arm-index l.arms)) l.found.items ≡ in_order (map (arm_reads (items_in l.line)) l.arms) l.initial.found.items
