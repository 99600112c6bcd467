use Rattle.std.proofs.Common.{◌≡◌, ◌∙◌, List, sym, ap}
use Rattle.rtl_ir.specs.declared.stmt.Stmt.{Stmt}
use Rattle.rtl_pieces.specs.Line.{items_in}
use Rattle.rtl_pieces.specs.Writes.{arm_writes, branch_writes, body_writes}
use Rattle.rtl_pieces.specs.WritesLaws.{arm_writes_is, branch_writes_is}
use Rattle.rtl_pieces.proofs.Noting.{noted_next}
use Rattle.rtl_pieces.proofs.writes.+writes.Goals as goal

pub arms_written-loop-arm-preserved : goal.arms_written-loop-arm-preserved
arms_written-loop-arm-preserved t c =
    let item = items_in c.args.line.now in
    let x = c.arm-item.result in
    let old = c.loop-arm.found.items in
    let part : c.add_all_written.new.found.items ≡ arm_writes item x old = c.in_ok-add_all_written.ensures ∙ ap (λ (b : List Stmt). body_writes item b old) c.as_slice.ensures ∙ sym (arm_writes_is item x old) in
    noted_next (arm_writes item) x c.args.arms.now c.loop-arm.arm-index c.args.found.now.items old c.add_all_written.new.found.items c.loop-arm-test.true c.arm-item.is part c.loop-arm.invariant

pub branches_written-loop-branch-preserved : goal.branches_written-loop-branch-preserved
branches_written-loop-branch-preserved t c =
    let item = items_in c.args.line.now in
    let x = c.branch-item.result in
    let old = c.loop-branch.found.items in
    let part : c.add_all_written.new.found.items ≡ branch_writes item x old = c.in_ok-add_all_written.ensures ∙ ap (λ (b : List Stmt). body_writes item b old) c.as_slice.ensures ∙ sym (branch_writes_is item x old) in
    noted_next (branch_writes item) x c.args.branches.now c.loop-branch.branch-index c.args.found.now.items old c.add_all_written.new.found.items c.loop-branch-test.true c.branch-item.is part c.loop-branch.invariant
