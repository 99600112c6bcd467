use Rattle.std.proofs.Common.{◌≡◌, Option, map, sym, ap, ◌∙◌, subst, add-one}
use Rattle.sv_tree.specs.declared.tree.item.GenBlock.{GenBlock}
use Rattle.sv_tree.specs.declared.tree.item.Item.{Item}
use Rattle.sv_tree.specs.TreeRead.{Tokens, all_of}
use Rattle.sv_tree.specs.Printed.{Appends}
use Rattle.sv_tree.specs.TreeStmt.{BodyRead}
use Rattle.sv_tree.specs.TreeItem.{gen_block_read, item_read, item_branch_read}
use Rattle.sv_tree.specs.TreeItemLaws.{item-Empty, item-Import, item-Parameters, item-Variables, item-Assigns, item-Comb, item-Star, item-ParenStar, item-Clocked, item-Genvars, item-Generate, item-For, item-If, item-IfElse, item-Instance, gen_block-Item, gen_block-Block, item_branch-roll}
use Rattle.sv_tree.proofs.Printed.{◌and◌, prints_next}
use Rattle.sv_tree.proofs.print.item.+item.Goals as goal

module _ {old new : Option Tokens} {e f : Item} {r : BodyRead} where
  by_item : e ≡ f → item_read f ≡ r → Appends old r.text.print new → Appends old (item_read e).text.print new
  by_item is reads h = subst (λ x. Appends old x.text.print new) (sym (ap item_read is ∙ reads)) h

module _ {old new : Option Tokens} {e f : GenBlock} {r : BodyRead} where
  by_gen_block : e ≡ f → gen_block_read f ≡ r → Appends old r.text.print new → Appends old (gen_block_read e).text.print new
  by_gen_block is reads h = subst (λ x. Appends old x.text.print new) (sym (ap gen_block_read is ∙ reads)) h

pub print_item-returns-in-Empty : goal.print_item-returns-in-Empty
print_item-returns-in-Empty t c = by_item c.in-Empty.is (item-Empty _) c.push.ensures

pub print_item-returns-in-Import : goal.print_item-returns-in-Import
print_item-returns-in-Import t c = by_item c.in-Import.is (item-Import _) c.print.ensures

pub print_item-returns-in-Parameters : goal.print_item-returns-in-Parameters
print_item-returns-in-Parameters t c =
    by_item c.in-Parameters.is (item-Parameters _ _ _ _)
    (c.push-in-Parameters.ensures and c.print-in-Parameters.ensures and c.print-in-Parameters-2.ensures and c.push-in-Parameters-2.ensures)

pub print_item-returns-in-Variables : goal.print_item-returns-in-Variables
print_item-returns-in-Variables t c =
    by_item c.in-Variables.is (item-Variables _ _ _) (c.print-in-Variables.ensures and c.print-in-Variables-2.ensures and c.push-in-Variables.ensures)

pub print_item-returns-in-Assigns : goal.print_item-returns-in-Assigns
print_item-returns-in-Assigns t c =
    by_item c.in-Assigns.is (item-Assigns _ _ _) (c.push-in-Assigns.ensures and c.print-in-Assigns.ensures and c.push-in-Assigns-2.ensures)

pub print_item-returns-in-Comb : goal.print_item-returns-in-Comb
print_item-returns-in-Comb t c = by_item c.in-Comb.is (item-Comb _ _) (c.push-in-Comb.ensures and c.print-in-Comb.ensures)

pub print_item-returns-in-Star : goal.print_item-returns-in-Star
print_item-returns-in-Star t c =
    by_item c.in-Star.is (item-Star _ _ _ _) (c.push-in-Star.ensures and c.push-in-Star-2.ensures and c.push-in-Star-3.ensures and c.print-in-Star.ensures)

pub print_item-returns-in-ParenStar : goal.print_item-returns-in-ParenStar
print_item-returns-in-ParenStar t c =
    by_item c.in-ParenStar.is (item-ParenStar _ _ _ _ _ _)
    (c.push-in-ParenStar.ensures and c.push-in-ParenStar-2.ensures and c.push-in-ParenStar-3.ensures and c.push-in-ParenStar-4.ensures and c.push-in-ParenStar-5.ensures
    and c.print-in-ParenStar.ensures)

pub print_item-returns-in-Clocked : goal.print_item-returns-in-Clocked
print_item-returns-in-Clocked t c =
    by_item c.in-Clocked.is (item-Clocked _ _ _ _ _ _)
    (c.push-in-Clocked.ensures and c.push-in-Clocked-2.ensures and c.push-in-Clocked-3.ensures and c.print-in-Clocked.ensures and c.push-in-Clocked-4.ensures
    and c.print-in-Clocked-2.ensures)

pub print_item-returns-in-Genvars : goal.print_item-returns-in-Genvars
print_item-returns-in-Genvars t c =
    by_item c.in-Genvars.is (item-Genvars _ _ _) (c.push-in-Genvars.ensures and c.print-in-Genvars.ensures and c.push-in-Genvars-2.ensures)

pub print_item-returns-in-Generate : goal.print_item-returns-in-Generate
print_item-returns-in-Generate t c =
    by_item c.in-Generate.is (item-Generate _ _ _) (c.push-in-Generate.ensures and (rw c.as_slice.ensures at c.print_items.ensures) and c.push-in-Generate-2.ensures)

pub print_item-returns-in-For : goal.print_item-returns-in-For
print_item-returns-in-For t c = by_item c.in-For.is (item-For _ _) (c.print-in-For.ensures and (rw c.get.ensures at c.print_gen_block.ensures))

pub print_item-returns-in-If : goal.print_item-returns-in-If
print_item-returns-in-If t c =
    by_item c.in-If.is (item-If _ _ _)
    ((rw c.as_slice-in-If.ensures at c.print_item_branches.ensures) and c.print-in-If.ensures and (rw c.get-in-If.ensures at c.print_gen_block-in-If.ensures))

pub print_item-returns-in-IfElse : goal.print_item-returns-in-IfElse
print_item-returns-in-IfElse t c =
    by_item c.in-IfElse.is (item-IfElse _ _)
    ((rw c.as_slice-in-IfElse.ensures at c.print_item_branches-in-IfElse.ensures) and (rw c.get-in-IfElse.ensures at c.print_gen_block-in-IfElse.ensures))

pub print_item-returns-in-Instance : goal.print_item-returns-in-Instance
print_item-returns-in-Instance t c =
    by_item c.in-Instance.is (item-Instance _ _ _ _ _ _ _)
    (c.push-in-Instance.ensures and c.print-in-Instance.ensures and c.push-in-Instance-2.ensures and c.push-in-Instance-3.ensures
    and c.print-in-Instance-2.ensures and c.push-in-Instance-4.ensures and c.push-in-Instance-5.ensures)

pub print_gen_block-returns-in-Item : goal.print_gen_block-returns-in-Item
print_gen_block-returns-in-Item t c = by_gen_block c.in-Item.is (gen_block-Item _) (rw c.get.ensures at c.print_item.ensures)

pub print_gen_block-returns-in-Block : goal.print_gen_block-returns-in-Block
print_gen_block-returns-in-Block t c =
    by_gen_block c.in-Block.is (gen_block-Block _ _ _ _ _)
    (c.push.ensures and c.print.ensures and (rw c.as_slice.ensures at c.print_items.ensures) and c.push-in-Block.ensures and c.print-in-Block.ensures)

pub print_item_branches-loop-branch-preserved : goal.print_item_branches-loop-branch-preserved
print_item_branches-loop-branch-preserved t c =
    let reads = item_branch-roll c.branch-item.result.test c.branch-item.result.body c.branch-item.result.else_word in
    rw add-one (prints_next c.branch-item.result c.loop-branch-test.true c.branch-item.is (λ rest r. ap (λ x. x.print ((all_of (map item_branch_read rest)).print r)) reads)
    (c.print.ensures and c.print_gen_block.ensures and c.push.ensures) c.loop-branch.invariant)
