use Rattle.std.proofs.Common.{◌≡◌, ℕ, ◌+◌, ◌<◌, List, [], ◌∷◌, ◌++◌, length, take, get_or, append_assoc, sym, ap, ◌∙◌}
use Rattle.std.specs.List.{flat_map}
use Rattle.std.proofs.lemmas.List.{append-nil, flat_map_more, take_more}
use Rattle.std.proofs.lemmas.Result.{on_ok_weaker}
use Rattle.sv_tree.specs.declared.tree.item.Import.{Import}
use Rattle.sv_tree.specs.declared.tree.item.Item.{Item}
use Rattle.sv_tree.specs.declared.tree.item.ItemBranch.{ItemBranch}
use Rattle.rtl_flat.specs.Imports.{item_imports, branch_imports}
use Rattle.rtl_flat.specs.ImportsLaws as law
use Rattle.rtl_flat.proofs.imports.+imports.Goals as goal

-- an item without imports adds none
none : {xs : List Import} {e f : Item} → e ≡ f → item_imports f ≡ [] → xs ≡ xs ++ item_imports e
none {xs = xs} is reads = sym (ap (λ l. xs ++ l) (ap item_imports is ∙ reads) ∙ append-nil xs)

-- the imports of branches, and then those of the last block
both : (xs ys zs p q : List Import) {e f : Item} → e ≡ f → item_imports f ≡ p ++ q → ys ≡ xs ++ p → zs ≡ ys ++ q → zs ≡ xs ++ item_imports e
both xs ys zs p q is reads first last = last ∙ ap (λ l. l ++ q) first ∙ append_assoc xs p q ∙ sym (ap (λ l. xs ++ l) (ap item_imports is ∙ reads))

-- one branch more
more : (bs mid new : List Import) (xs : List ItemBranch) (i : ℕ) (x : ItemBranch) → i < length xs → x ≡ get_or xs i x
    → mid ≡ bs ++ flat_map branch_imports (take i xs) → new ≡ mid ++ branch_imports x → new ≡ bs ++ flat_map branch_imports (take (i + 1) xs)
more bs mid new xs i x within is sofar here =
    let front : take (i + 1) xs ≡ take i xs ++ x ∷ [] = take_more xs i x within ∙ ap (λ y. take i xs ++ y ∷ []) (sym is) in
    here ∙ ap (λ l. l ++ branch_imports x) sofar ∙ flat_map_more branch_imports bs (take i xs) x ∙ sym (ap (λ l. bs ++ flat_map branch_imports l) front)

pub add_item-returns-in-Instance : goal.add_item-returns-in-Instance
add_item-returns-in-Instance t c = none c.in-Instance.is (law.item-Instance _ _ _ _ _ _ _)

pub add_item-returns-in-Empty : goal.add_item-returns-in-Empty
add_item-returns-in-Empty t c = none c.in-Empty.is (law.item-Empty _)

pub add_item-returns-in-Parameters : goal.add_item-returns-in-Parameters
add_item-returns-in-Parameters t c = none c.in-Parameters.is (law.item-Parameters _ _ _ _)

pub add_item-returns-in-Variables : goal.add_item-returns-in-Variables
add_item-returns-in-Variables t c = none c.in-Variables.is (law.item-Variables _ _ _)

pub add_item-returns-in-Assigns : goal.add_item-returns-in-Assigns
add_item-returns-in-Assigns t c = none c.in-Assigns.is (law.item-Assigns _ _ _)

pub add_item-returns-in-Comb : goal.add_item-returns-in-Comb
add_item-returns-in-Comb t c = none c.in-Comb.is (law.item-Comb _ _)

pub add_item-returns-in-Star : goal.add_item-returns-in-Star
add_item-returns-in-Star t c = none c.in-Star.is (law.item-Star _ _ _ _)

pub add_item-returns-in-ParenStar : goal.add_item-returns-in-ParenStar
add_item-returns-in-ParenStar t c = none c.in-ParenStar.is (law.item-ParenStar _ _ _ _ _ _)

pub add_item-returns-in-Clocked : goal.add_item-returns-in-Clocked
add_item-returns-in-Clocked t c = none c.in-Clocked.is (law.item-Clocked _ _ _ _ _ _)

pub add_item-returns-in-Genvars : goal.add_item-returns-in-Genvars
add_item-returns-in-Genvars t c = none c.in-Genvars.is (law.item-Genvars _ _ _)

pub add_item-returns-in_ok-add_branches-in-If : goal.add_item-returns-in_ok-add_branches-in-If
add_item-returns-in_ok-add_branches-in-If t c =
    on_ok_weaker c.add_block-in-If.result
    (both _ _ _ _ _ c.in-If.is (law.item-If _ _ _) (rw c.as_slice-in-If.ensures at c.in_ok-add_branches-in-If.ensures))
    (rw c.get-in-If.ensures at c.add_block-in-If.ensures)

pub add_item-returns-in_ok-add_branches-in-IfElse : goal.add_item-returns-in_ok-add_branches-in-IfElse
add_item-returns-in_ok-add_branches-in-IfElse t c =
    on_ok_weaker c.add_block-in-IfElse.result
    (both _ _ _ _ _ c.in-IfElse.is (law.item-IfElse _ _) (rw c.as_slice-in-IfElse.ensures at c.in_ok-add_branches-in-IfElse.ensures))
    (rw c.get-in-IfElse.ensures at c.add_block-in-IfElse.ensures)

pub add_branches-loop-branch-preserved : goal.add_branches-loop-branch-preserved
add_branches-loop-branch-preserved t c =
    more _ _ _ c.args.branches.now c.loop-branch.branch-index c.branch-item.result c.loop-branch-test.true c.branch-item.is c.loop-branch.invariant
    (rw law.branch_is c.in_ok-add_block.ensures)
