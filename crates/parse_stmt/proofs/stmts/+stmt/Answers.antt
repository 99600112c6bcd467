use Rattle.std.proofs.Common.{◌∙◌, sym}
use Rattle.std.proofs.lemmas.Result.{IfOk-weaker}
use Rattle.std.proofs.lemmas.Bool.{true≢false}
use Rattle.sv_tree.specs.TreeStmt.{arm_read, branch_read, stmt_read}
use Rattle.parse_stmt.specs.BodyLaws.{texts_more, all_more, some_more}
use Rattle.parse_stmt.proofs.Rules.{block_stmt, for_stmt, case_stmt, arm_of, branch_stmt, if_stmt, if_else_stmt}
use Rattle.parse_stmt.proofs.stmts.+stmt.Goals as goal

-- ---- by the first token

pub stmt-returns-in-Begin-clause-reads : goal.stmt-returns-in-Begin-clause-reads
stmt-returns-in-Begin-clause-reads t c = IfOk-weaker c.block.result _ _ (λ s h. h c.args.depth c.in_ok-depth.ensures.inner.0) c.block.ensures.reads

pub stmt-returns-in-If-clause-reads : goal.stmt-returns-in-If-clause-reads
stmt-returns-in-If-clause-reads t c = IfOk-weaker c.if_chain.result _ _ (λ s h. h c.args.depth c.in_ok-depth.ensures.inner.0) c.if_chain.ensures.reads

pub stmt-returns-in-Case-clause-reads : goal.stmt-returns-in-Case-clause-reads
stmt-returns-in-Case-clause-reads t c = IfOk-weaker c.case.result _ _ (λ s h. h c.args.depth c.in_ok-depth.ensures.inner.0) c.case.ensures.reads

pub stmt-returns-in-For-clause-reads : goal.stmt-returns-in-For-clause-reads
stmt-returns-in-For-clause-reads t c = IfOk-weaker c.for_loop.result _ _ (λ s h. h c.args.depth c.in_ok-depth.ensures.inner.0) c.for_loop.ensures.reads

pub stmt-returns-in_default : goal.stmt-returns-in_default
stmt-returns-in_default t c = record {
  reads = IfOk-weaker c.simple.result _ _ (λ s h. h c.args.depth c.in_ok-depth.ensures.inner.0) c.simple.ensures.reads;
  fault = c.simple.ensures.fault;
}

-- ---- blocks and loops

pub block-body-preserved : goal.block-body-preserved
block-body-preserved t c =
    rw c.in_ok-push.ensures.more (record { reads = texts_more stmt_read c.body.body c.in_ok-next.next c.body.invariant.reads c.in_ok-next.ensures.reads.text })

pub block-returns-clause-reads : goal.block-returns-clause-reads
block-returns-clause-reads t c =
    block_stmt c.in_ok-begin.begin c.body.body c.in_ok-end.end c.in_ok-begin.ensures.reads c.in_ok-begin.ensures.forward c.body.invariant.reads c.in_ok-end.ensures.reads

pub for_loop-returns-clause-reads : goal.for_loop-returns-clause-reads
for_loop-returns-clause-reads t c =
    rw c.in_ok-body-2.ensures.value (for_stmt c.in_ok-head.head c.in_ok-body.body c.in_ok-head.ensures.reads c.in_ok-body.ensures.reads)

-- ---- `case`

pub arms-arms-preserved : goal.arms-arms-preserved
arms-arms-preserved t c =
    rw c.in_ok-push.ensures.more (record {
      reads = all_more arm_read c.arms.arms c.in_ok-next.next c.arms.invariant.reads
          (rw c.in_ok-next.ensures.made (arm_of c.in_ok-head.head c.in_ok-body.body c.in_ok-head.ensures.reads c.in_ok-body.ensures.reads));
    })

pub case-returns-clause-reads : goal.case-returns-clause-reads
case-returns-clause-reads t c =
    rw c.case_of.ensures (case_stmt c.in_ok-head.head c.in_ok-arms.arms c.requires.deep c.in_ok-head.ensures.reads c.in_ok-arms.ensures.reads c.in_ok-end.ensures.token)

-- ---- chains of `if`

pub if_chain-branches-preserved : goal.if_chain-branches-preserved
if_chain-branches-preserved t c =
    rw c.in_ok-push.ensures.more (record {
      reads = all_more branch_read c.branches.branches _ c.branches.invariant.reads
          (branch_stmt c.in_ok-test.test c.in_ok-body.body c.requires.deep c.in_ok-test.ensures.reads c.in_ok-body.ensures.reads c.in-Some.ensures);
      begun = λ empty. absurd (true≢false (sym empty ∙ some_more c.branches.branches _));
    })

pub if_chain-returns-in_default-clause-reads : goal.if_chain-returns-in_default-clause-reads
if_chain-returns-in_default-clause-reads t c =
    IfOk-weaker c.if_stmt.result _ _ (λ s made. if_stmt c.branches.branches c.in_ok-test.test c.in_ok-body.body s made c.branches.invariant.reads
    c.in_ok-test.ensures.reads c.in_ok-body.ensures.reads c.requires.first c.in_default.ensures) c.if_stmt.ensures.made

pub if_chain-returns-clause-reads : goal.if_chain-returns-clause-reads
if_chain-returns-clause-reads t c =
    IfOk-weaker c.if_else_stmt.result _ _ (λ s made. if_else_stmt c.branches.branches c.in_ok-last.last s made c.branches.invariant.reads
    c.in_ok-last.ensures.reads c.branches.invariant.begun c.requires.first (sym c.sees.ensures ∙ c.branches-test.false)) c.if_else_stmt.ensures.made
