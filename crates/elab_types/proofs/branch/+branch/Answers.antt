use Rattle.std.proofs.Common.{◌∷◌, [], map, Some, None, refl, sym, ap, ◌∙◌, subst}
use Rattle.std.proofs.lemmas.List.{append-nil}
use Rattle.sv_expr.specs.Environment.{environment}
use Rattle.elab_types.specs.Branch.{Taken, Fails, NoBlock, Stays, GoesOn, branch, decided, decided_in, answered}
use Rattle.elab_types.proofs.Taking as law
use Rattle.elab_types.proofs.branch.+branch.Goals as goal

pub block_in-returns-in_default : goal.block_in-returns-in_default
block_in-returns-in_default t c = Stays c.args.block.now (law.other_item c.in-Item.is c.get.ensures c.in_default.not-If c.in_default.not-IfElse)

pub block_in-returns-in-If : goal.block_in-returns-in-If
block_in-returns-in-If t c =
    GoesOn c.args.block.now c.in-Item.item (answered c.block_taken.result) (law.inner_if c.in-Item.is c.get.ensures c.in-If.is)
    (subst (λ i. Taken (environment c.args.scope.now) (decided_in (environment c.args.scope.now) i) (answered c.block_taken.result)) c.get-in-If.ensures c.block_taken.ensures)

pub block_in-returns-in-Block : goal.block_in-returns-in-Block
block_in-returns-in-Block t c = Stays c.args.block.now (law.whole_block c.in-Block.begin c.in-Block.label c.in-Block.items c.in-Block.end c.in-Block.end_label c.in-Block.is)

pub block_taken-returns-in-Ok-false : goal.block_taken-returns-in-Ok-false
block_taken-returns-in-Ok-false t c =
    let env = environment c.args.scope.now in
    law.taken_by env
    (law.decided_if env c.in-If.branches c.in-If.test c.in-If.body c.in-If.is
    ∙ (rw c.as_slice.ensures at c.in-None.ensures.passed refl) (record { test = c.in-If.test.test; block = c.in-If.body } ∷ []) None
    ∙ law.not_held _ _ c.in-Ok-false.ensures.fault c.in-Ok-false.ensures.value c.in-Ok-false.field-0-test)
    NoBlock

pub block_taken-returns-in-Err : goal.block_taken-returns-in-Err
block_taken-returns-in-Err t c =
    let env = environment c.args.scope.now in
    law.taken_by env
    (law.decided_if env c.in-If.branches c.in-If.test c.in-If.body c.in-If.is
    ∙ (rw c.as_slice.ensures at c.in-None.ensures.passed refl) (record { test = c.in-If.test.test; block = c.in-If.body } ∷ []) None
    ∙ law.at_fault _ _ _ c.in-Err.ensures.fault)
    (Fails c.in-Err.fault)

pub block_taken-returns-in-Some-in_branches : goal.block_taken-returns-in-Some-in_branches
block_taken-returns-in-Some-in_branches t c =
    let env = environment c.args.scope.now in
    law.taken_by env
    (law.decided_if_else env c.in-IfElse.branches c.in-IfElse.last c.in-IfElse.is ∙ ap (λ xs. decided env xs (Some c.in-IfElse.last)) (sym (append-nil (map branch c.in-IfElse.branches))))
    ((rw c.as_slice-in-IfElse.ensures at c.in-Some-in_branches.ensures.decided) [] (Some c.in-IfElse.last))

pub block_taken-returns-in-None-in_branches : goal.block_taken-returns-in-None-in_branches
block_taken-returns-in-None-in_branches t c =
    let env = environment c.args.scope.now in
    law.taken_by env
    (law.decided_if_else env c.in-IfElse.branches c.in-IfElse.last c.in-IfElse.is
    ∙ ap (λ xs. decided env xs (Some c.in-IfElse.last)) (sym (append-nil (map branch c.in-IfElse.branches)))
    ∙ (rw c.as_slice-in-IfElse.ensures at c.in-None-in_branches.ensures.passed refl) [] (Some c.in-IfElse.last))
    (rw c.get-in-None-in_branches.ensures at c.block_in-in-None-in_branches.ensures)

pub block_taken-returns-in_default : goal.block_taken-returns-in_default
block_taken-returns-in_default t c =
    let env = environment c.args.scope.now in
    law.taken_by env (law.decides_nothing env c.args.item.now c.in_default.not-If c.in_default.not-IfElse) NoBlock

pub in_branches-returns-in-Err-clause-decided : goal.in_branches-returns-in-Err-clause-decided
in_branches-returns-in-Err-clause-decided t c = λ more last.
    let env = environment c.args.scope.now in
    law.taken_by env
    (law.reached env c.args.branches.now c.loop-branch.branch-index c.branch-item.result more last c.loop-branch-test.true c.branch-item.is (c.loop-branch.invariant more last) ∙ law.at_fault _ _ _ c.in-Err.ensures.fault)
    (Fails c.in-Err.fault)
