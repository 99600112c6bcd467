use Rattle.std.proofs.Common.{◌∙◌, sym}
use Rattle.std.proofs.lemmas.Bool.{true≢false}
use Rattle.std.proofs.lemmas.Result.{IfOk-weaker}
use Rattle.sv_tree.specs.TreeItem.{item_read, item_branch_read}
use Rattle.parse_stmt.specs.BodyLaws.{texts_more, all_more, some_more}
use Rattle.sv_parse.proofs.Rules.{generate_item, for_item, branch_item, if_item, if_else_item, item_block, items_block}
use Rattle.sv_parse.proofs.items.+item.Goals as goal

-- ---- by the first token

pub item-returns-in-Generate-clause-reads : goal.item-returns-in-Generate-clause-reads
item-returns-in-Generate-clause-reads t c = IfOk-weaker c.generate.result _ _ (λ s h. h c.args.depth c.in_ok-depth.ensures.inner.0) c.generate.ensures.reads

pub item-returns-in-If-clause-reads : goal.item-returns-in-If-clause-reads
item-returns-in-If-clause-reads t c = IfOk-weaker c.item_chain.result _ _ (λ s h. h c.args.depth c.in_ok-depth.ensures.inner.0) c.item_chain.ensures.reads

pub item-returns-in_default : goal.item-returns-in_default
item-returns-in_default t c = record {
  reads = IfOk-weaker c.item_for.result _ _ (λ s h. h c.args.depth c.in_ok-depth.ensures.inner.0) c.item_for.ensures.reads;
  fault = c.item_for.ensures.fault;
}

-- ---- lists, blocks and loops

pub items-items-preserved : goal.items-items-preserved
items-items-preserved t c =
    rw c.in_ok-push.ensures.more (record { reads = texts_more item_read c.items.items c.in_ok-next.next c.items.invariant.reads c.in_ok-next.ensures.reads.text })

pub generate-returns-clause-reads : goal.generate-returns-clause-reads
generate-returns-clause-reads t c =
    generate_item c.in_ok-items.items c.requires.deep c.in_ok-word.ensures.token c.in_ok-items.ensures.reads c.in_ok-end.ensures.token

pub item_for-returns-clause-reads : goal.item_for-returns-clause-reads
item_for-returns-clause-reads t c =
    rw c.in_ok-body-2.ensures.value (for_item c.in_ok-head.head c.in_ok-body.body c.in_ok-head.ensures.reads c.in_ok-body.ensures.reads)

pub gen_block-returns-then-not-sees-clause-reads : goal.gen_block-returns-then-not-sees-clause-reads
gen_block-returns-then-not-sees-clause-reads t c =
    rw c.in_ok-item-2.ensures.value (item_block c.in_ok-item.item c.in_ok-item.ensures.reads)

pub gen_block-returns-clause-reads : goal.gen_block-returns-clause-reads
gen_block-returns-clause-reads t c =
    items_block c.in_ok-begin.begin c.in_ok-items.items c.in_ok-end.end c.in_ok-inner.ensures.inner.0 c.in_ok-begin.ensures.reads c.in_ok-begin.ensures.forward
    c.in_ok-items.ensures.reads c.in_ok-end.ensures.reads

-- ---- chains of `if`

pub item_chain-branches-preserved : goal.item_chain-branches-preserved
item_chain-branches-preserved t c =
    rw c.in_ok-push.ensures.more (record {
      reads = all_more item_branch_read c.branches.branches _ c.branches.invariant.reads
          (branch_item c.in_ok-test.test c.in_ok-body.body c.requires.deep c.in_ok-test.ensures.reads c.in_ok-body.ensures.reads c.in-Some.ensures);
      begun = λ empty. absurd (true≢false (sym empty ∙ some_more c.branches.branches _));
    })

pub item_chain-returns-in_default-clause-reads : goal.item_chain-returns-in_default-clause-reads
item_chain-returns-in_default-clause-reads t c =
    IfOk-weaker c.if_item.result _ _ (λ s made. if_item c.branches.branches c.in_ok-test.test c.in_ok-body.body s made c.branches.invariant.reads
    c.in_ok-test.ensures.reads c.in_ok-body.ensures.reads c.requires.first c.in_default.ensures) c.if_item.ensures.made

pub item_chain-returns-clause-reads : goal.item_chain-returns-clause-reads
item_chain-returns-clause-reads t c =
    IfOk-weaker c.if_else_item.result _ _ (λ s made. if_else_item c.branches.branches c.in_ok-last.last s made c.branches.invariant.reads
    c.in_ok-last.ensures.reads c.branches.invariant.begun c.requires.first (sym c.sees.ensures ∙ c.branches-test.false)) c.if_else_item.ensures.made
