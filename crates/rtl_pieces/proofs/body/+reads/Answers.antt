use Rattle.std.proofs.Common.{◌≡◌, ◌∙◌, List, sym, ap}
use Rattle.std.proofs.lemmas.Result.{on_ok_weaker}
use Rattle.rtl_ir.specs.declared.expr.Call.{out-Call}
use Rattle.rtl_ir.specs.declared.stmt.Stmt.{Stmt}
use Rattle.rtl_ir.specs.declared.stmt.Arm.{out-Arm}
use Rattle.rtl_ir.specs.declared.stmt.Branch.{out-Branch}
use Rattle.rtl_ir.specs.declared.expr.Expr.{Expr}
use Rattle.rtl_pieces.specs.Line.{items_in}
use Rattle.rtl_pieces.specs.Reads.{exprs_read}
use Rattle.rtl_pieces.specs.Writes.{arm_reads, branch_reads, stmt_reads, body_reads}
use Rattle.rtl_pieces.specs.ReadsLaws.{call_is}
use Rattle.rtl_pieces.specs.WritesLaws.{arm_reads_is, branch_reads_is, reads-Do}
use Rattle.rtl_pieces.proofs.Noting.{noted_next}
use Rattle.rtl_pieces.proofs.body.+reads.Goals as goal

pub add_read-returns-in-Do : goal.add_read-returns-in-Do
add_read-returns-in-Do t c =
    let item = items_in c.args.line.now in
    let old = c.args.found.now.items in
    let call = c.in-Do.call in
    let e : c.as_slice-in-Do.result.now ≡ (out-Call call).args = cc in
    let f : exprs_read item c.as_slice-in-Do.result.now old ≡ stmt_reads item c.args.stmt.now old =
    ap (λ (es : List Expr). exprs_read item es old) e ∙ sym (call_is item call old) ∙ sym (reads-Do item call old) ∙ sym (ap (λ (s : Stmt). stmt_reads item s old) c.in-Do.is) in
    on_ok_weaker c.add_exprs.result (λ h. h ∙ f) c.add_exprs.ensures

pub arms_read-loop-arm-preserved : goal.arms_read-loop-arm-preserved
arms_read-loop-arm-preserved t c =
    let item = items_in c.args.line.now in
    let x = c.arm-item.result in
    let old = c.loop-arm.found.items in
    let part : c.add_all_read.new.found.items ≡ arm_reads item x old =
    c.in_ok-add_all_read.ensures ∙ ap (λ (b : List Stmt). body_reads item b c.add_exprs.new.found.items) c.as_slice-in-loop-arm.ensures
    ∙ ap (body_reads item (out-Arm x).body) (c.in_ok-add_exprs.ensures ∙ ap (λ (es : List Expr). exprs_read item es old) c.as_slice.ensures) ∙ sym (arm_reads_is item x old) in
    noted_next (arm_reads item) x c.args.arms.now c.loop-arm.arm-index c.args.found.now.items old c.add_all_read.new.found.items c.loop-arm-test.true c.arm-item.is part c.loop-arm.invariant

pub branches_read-loop-branch-preserved : goal.branches_read-loop-branch-preserved
branches_read-loop-branch-preserved t c =
    let item = items_in c.args.line.now in
    let x = c.branch-item.result in
    let old = c.loop-branch.found.items in
    let part : c.add_all_read.new.found.items ≡ branch_reads item x old =
    c.in_ok-add_all_read.ensures ∙ ap (λ (b : List Stmt). body_reads item b c.add_expr.new.found.items) c.as_slice.ensures
    ∙ ap (body_reads item (out-Branch x).body) c.in_ok-add_expr.ensures ∙ sym (branch_reads_is item x old) in
    noted_next (branch_reads item) x c.args.branches.now c.loop-branch.branch-index c.args.found.now.items old c.add_all_read.new.found.items c.loop-branch-test.true c.branch-item.is part c.loop-branch.invariant
