use Rattle.std.proofs.Common.{◌≡◌, Bool, true, false, Option, refl, sym, ap, ◌∙◌, add-one}
use Rattle.std.specs.Prelude.{◌||◌}
use Rattle.std.specs.Option.{is_some}
use Rattle.sv_tree.specs.declared.tree.stmt.Arm.{Arm}
use Rattle.sv_tree.specs.declared.token.Token.{Token}
use Rattle.sv_tree.specs.declared.tree.stmt.Stmt.{Stmt}
use Rattle.sv_names.specs.Defaults.{Notes, ArmNotes, stmt_notes, branch_notes, arm_notes, arm_in_order}
use Rattle.sv_names.specs.DefaultLaws as law
use Rattle.sv_names.proofs.ArmNoting.{noted_next, arms_next}
use Rattle.sv_names.proofs.defaults.+defaults.Goals as goal

before_or : (b : Bool) → b ≡ (b || false)
before_or true = refl
before_or false = refl

or_true : (b : Bool) → true ≡ (b || true)
or_true true = refl
or_true false = refl

module _ {old new : Option Token} {e f : Stmt} {r : Notes} where
  by : e ≡ f → stmt_notes f ≡ r → new ≡ r old → new ≡ stmt_notes e old
  by is reads h = h ∙ sym (ap (λ (n : Notes). n old) (ap stmt_notes is ∙ reads))

module _ {e f : Arm} {r : ArmNotes} where
  by_arm : (before : Bool) (old : Option Token) {new : Option Token} → e ≡ f → arm_notes f ≡ r → new ≡ arm_in_order before r old → new ≡ arm_in_order before (arm_notes e) old
  by_arm before old is reads h = h ∙ sym (ap (λ (n : ArmNotes). arm_in_order before n old) (ap arm_notes is ∙ reads))

  word_by : (before : Bool) {b : Bool} → e ≡ f → arm_notes f ≡ r → b ≡ (before || is_some r.word) → b ≡ (before || is_some (arm_notes e).word)
  word_by before is reads h = h ∙ sym (ap (λ (n : ArmNotes). before || is_some n.word) (ap arm_notes is ∙ reads))

pub find_second_default-returns-in-Block : goal.find_second_default-returns-in-Block
find_second_default-returns-in-Block t c = by c.in-Block.is (law.stmt-Block _ _ _ _ _) (rw c.as_slice.ensures at c.in_statements.ensures)

pub find_second_default-returns-in-If : goal.find_second_default-returns-in-If
find_second_default-returns-in-If t c =
    by c.in-If.is (law.stmt-If _ _ _)
    ((rw c.get.ensures at c.find_second_default.ensures) ∙ ap (stmt_notes c.in-If.body) (rw c.as_slice-in-If.ensures at c.in_branches.ensures))

pub find_second_default-returns-in-IfElse : goal.find_second_default-returns-in-IfElse
find_second_default-returns-in-IfElse t c =
    by c.in-IfElse.is (law.stmt-IfElse _ _)
    ((rw c.get-in-IfElse.ensures at c.find_second_default-in-IfElse.ensures) ∙ ap (stmt_notes c.in-IfElse.last) (rw c.as_slice-in-IfElse.ensures at c.in_branches-in-IfElse.ensures))

pub find_second_default-returns-in-Case : goal.find_second_default-returns-in-Case
find_second_default-returns-in-Case t c = by c.in-Case.is (law.stmt-Case _ _ _ _ _ _) (rw c.as_slice-in-Case.ensures at c.in_arms.ensures)

pub find_second_default-returns-in-For : goal.find_second_default-returns-in-For
find_second_default-returns-in-For t c = by c.in-For.is (law.stmt-For _ _) (rw c.get-in-For.ensures at c.find_second_default-in-For.ensures)

pub find_second_default-returns-in-Empty : goal.find_second_default-returns-in-Empty
find_second_default-returns-in-Empty t c = by c.in-Empty.is (law.stmt-Empty _) refl

pub find_second_default-returns-in-Assign : goal.find_second_default-returns-in-Assign
find_second_default-returns-in-Assign t c = by c.in-Assign.is (law.stmt-Assign _ _ _ _) refl

pub find_second_default-returns-in-Call : goal.find_second_default-returns-in-Call
find_second_default-returns-in-Call t c = by c.in-Call.is (law.stmt-Call _ _ _ _ _) refl

pub in_statements-loop-stmt-preserved : goal.in_statements-loop-stmt-preserved
in_statements-loop-stmt-preserved t c =
    rw add-one (noted_next stmt_notes c.stmt-item.result _ _ _ _ _ c.loop-stmt-test.true c.stmt-item.is c.find_second_default.ensures c.loop-stmt.invariant)

pub in_branches-loop-branch-preserved : goal.in_branches-loop-branch-preserved
in_branches-loop-branch-preserved t c =
    let reads = law.branch-roll c.branch-item.result.test c.branch-item.result.body c.branch-item.result.else_word in
    rw add-one (noted_next branch_notes c.branch-item.result _ _ _ _ _ c.loop-branch-test.true c.branch-item.is
    (c.find_second_default.ensures ∙ sym (ap (λ (n : Notes). n c.loop-branch.found) reads)) c.loop-branch.invariant)

pub in_arms-loop-arm-preserved : goal.in_arms-loop-arm-preserved
in_arms-loop-arm-preserved t c =
    rw add-one (arms_next arm_notes c.arm-item.result _ _ _ _ _ _ _ c.loop-arm-test.true c.arm-item.is c.in_arm-has_default.ensures.found c.in_arm-has_default.ensures.has_default c.loop-arm.invariant)

pub in_arm-returns-in-Labels-clause-found : goal.in_arm-returns-in-Labels-clause-found
in_arm-returns-in-Labels-clause-found t c = by_arm _ _ c.in-Labels.is (law.arm-Labels _ _ _ _) (rw c.get.ensures at c.find_second_default.ensures)

pub in_arm-returns-in-Labels-clause-has_default : goal.in_arm-returns-in-Labels-clause-has_default
in_arm-returns-in-Labels-clause-has_default t c = word_by _ c.in-Labels.is (law.arm-Labels _ _ _ _) (before_or c.args.has_default)

pub in_arm-returns-in-Default-clause-found : goal.in_arm-returns-in-Default-clause-found
in_arm-returns-in-Default-clause-found t c =
    by_arm _ _ c.in-Default.is (law.arm-Default _ _ _) ((rw c.get-in-Default.ensures at c.find_second_default-in-Default.ensures) ∙ ap (stmt_notes c.in-Default.body) c.note.ensures)

pub in_arm-returns-in-Default-clause-has_default : goal.in_arm-returns-in-Default-clause-has_default
in_arm-returns-in-Default-clause-has_default t c = word_by _ c.in-Default.is (law.arm-Default _ _ _) (or_true c.args.has_default)
