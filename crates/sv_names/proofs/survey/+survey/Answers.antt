use Rattle.std.proofs.Common.{◌≡◌, Option, map, sym, ap, ◌∙◌, subst, add-one}
use Rattle.sv_tree.specs.declared.tree.item.GenBlock.{GenBlock}
use Rattle.sv_tree.specs.declared.tree.item.Item.{Item}
use Rattle.sv_tree.specs.declared.tree.item.ItemBranch.{ItemBranch}
use Rattle.sv_names.specs.Noted.{Texts, Noted, Notes, Adds, item_notes, block_notes, branch_notes}
use Rattle.sv_names.specs.NotedLaws as law
use Rattle.sv_names.proofs.Noting.{adds_nothing, ◌and◌, added_next}
use Rattle.sv_names.proofs.survey.+survey.Goals as goal

module _ (names : Texts) {old new : Option Noted} {e f : Item} {r : Notes} where
  by_item : e ≡ f → item_notes names f ≡ r → Adds old r new → Adds old (item_notes names e) new
  by_item is reads h = subst (λ x. Adds old x new) (sym (ap (item_notes names) is ∙ reads)) h

module _ (names : Texts) {old new : Option Noted} {e f : GenBlock} {r : Notes} where
  by_block : e ≡ f → block_notes names f ≡ r → Adds old r new → Adds old (block_notes names e) new
  by_block is reads h = subst (λ x. Adds old x new) (sym (ap (block_notes names) is ∙ reads)) h

pub survey_item-returns-in-Import : goal.survey_item-returns-in-Import
survey_item-returns-in-Import t c = by_item c.args.names.now c.in-Import.is (law.item-Import c.args.names.now _) c.import.ensures

pub survey_item-returns-in-Generate : goal.survey_item-returns-in-Generate
survey_item-returns-in-Generate t c = by_item c.args.names.now c.in-Generate.is (law.item-Generate c.args.names.now _ _ _) (rw c.as_slice.ensures at c.survey_items.ensures)

pub survey_item-returns-in-For : goal.survey_item-returns-in-For
survey_item-returns-in-For t c = by_item c.args.names.now c.in-For.is (law.item-For c.args.names.now _ _) (rw c.get.ensures at c.survey_block.ensures)

pub survey_item-returns-in-If : goal.survey_item-returns-in-If
survey_item-returns-in-If t c =
    by_item c.args.names.now c.in-If.is (law.item-If c.args.names.now _ _ _)
    ((rw c.as_slice-in-If.ensures at c.survey_branches.ensures) and (rw c.get-in-If.ensures at c.survey_block-in-If.ensures))

pub survey_item-returns-in-IfElse : goal.survey_item-returns-in-IfElse
survey_item-returns-in-IfElse t c =
    by_item c.args.names.now c.in-IfElse.is (law.item-IfElse c.args.names.now _ _)
    ((rw c.as_slice-in-IfElse.ensures at c.survey_branches-in-IfElse.ensures) and (rw c.get-in-IfElse.ensures at c.survey_block-in-IfElse.ensures))

pub survey_item-returns-in-Instance : goal.survey_item-returns-in-Instance
survey_item-returns-in-Instance t c = by_item c.args.names.now c.in-Instance.is (law.item-Instance c.args.names.now _ _ _ _ _ _ _) c.instance.ensures

pub survey_item-returns-in-Empty : goal.survey_item-returns-in-Empty
survey_item-returns-in-Empty t c = by_item c.args.names.now c.in-Empty.is (law.item-Empty c.args.names.now _) (adds_nothing _)

pub survey_item-returns-in-Parameters : goal.survey_item-returns-in-Parameters
survey_item-returns-in-Parameters t c = by_item c.args.names.now c.in-Parameters.is (law.item-Parameters c.args.names.now _ _ _ _) (adds_nothing _)

pub survey_item-returns-in-Variables : goal.survey_item-returns-in-Variables
survey_item-returns-in-Variables t c = by_item c.args.names.now c.in-Variables.is (law.item-Variables c.args.names.now _ _ _) (adds_nothing _)

pub survey_item-returns-in-Assigns : goal.survey_item-returns-in-Assigns
survey_item-returns-in-Assigns t c = by_item c.args.names.now c.in-Assigns.is (law.item-Assigns c.args.names.now _ _ _) (adds_nothing _)

pub survey_item-returns-in-Comb : goal.survey_item-returns-in-Comb
survey_item-returns-in-Comb t c = by_item c.args.names.now c.in-Comb.is (law.item-Comb c.args.names.now _ _) c.body.ensures

pub survey_item-returns-in-Star : goal.survey_item-returns-in-Star
survey_item-returns-in-Star t c = by_item c.args.names.now c.in-Star.is (law.item-Star c.args.names.now _ _ _ _) c.body-in-Star.ensures

pub survey_item-returns-in-ParenStar : goal.survey_item-returns-in-ParenStar
survey_item-returns-in-ParenStar t c = by_item c.args.names.now c.in-ParenStar.is (law.item-ParenStar c.args.names.now _ _ _ _ _ _) c.body-in-ParenStar.ensures

pub survey_item-returns-in-Clocked : goal.survey_item-returns-in-Clocked
survey_item-returns-in-Clocked t c = by_item c.args.names.now c.in-Clocked.is (law.item-Clocked c.args.names.now _ _ _ _ _ _) c.body-in-Clocked.ensures

pub survey_item-returns-in-Genvars : goal.survey_item-returns-in-Genvars
survey_item-returns-in-Genvars t c = by_item c.args.names.now c.in-Genvars.is (law.item-Genvars c.args.names.now _ _ _) (adds_nothing _)

pub survey_block-returns-in-Item : goal.survey_block-returns-in-Item
survey_block-returns-in-Item t c = by_block c.args.names.now c.in-Item.is (law.gen_block-Item c.args.names.now _) (rw c.get.ensures at c.survey_item.ensures)

pub survey_block-returns-in-Block : goal.survey_block-returns-in-Block
survey_block-returns-in-Block t c = by_block c.args.names.now c.in-Block.is (law.gen_block-Block c.args.names.now _ _ _ _ _) (rw c.as_slice.ensures at c.survey_items.ensures)

module _ (names : Texts) (e : ItemBranch) {old new : Option Noted} {r : Notes} where
  by_branch : branch_notes names e ≡ r → Adds old r new → Adds old (branch_notes names e) new
  by_branch reads h = subst (λ x. Adds old x new) (sym reads) h

pub survey_branches-loop-branch-preserved : goal.survey_branches-loop-branch-preserved
survey_branches-loop-branch-preserved t c =
    let reads = law.item_branch-roll c.args.names.now c.branch-item.result.test c.branch-item.result.body c.branch-item.result.else_word in
    rw add-one (added_next c.branch-item.result c.loop-branch-test.true c.branch-item.is (by_branch c.args.names.now c.branch-item.result reads c.survey_block.ensures) c.loop-branch.invariant)
