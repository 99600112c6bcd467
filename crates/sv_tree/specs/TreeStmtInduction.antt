-- What every layer keeps holds of what each statement reads as.
use Rattle.std.proofs.Common.{◌≡◌, List, [], ◌∷◌, map, sym, subst}
use denote.Hole.Holds.{Such}
use Rattle.sv_tree.specs.declared.tree.stmt.Arm.{Arm}
use Rattle.sv_tree.specs.declared.tree.stmt.Stmt.{Stmt}
use Rattle.sv_tree.specs.declared.tree.stmt.Branch.{Branch}
use Rattle.sv_tree.specs.declared.tree.stmt.Arm.TheBlock.{the_family, member-Arm, member-Stmt, member-Branch}
use Rattle.sv_tree.specs.declared.tree.stmt.Arm.TheFolds.{claims, ind-Arm, map-Arm, fold-roll-Arm, ind-Stmt, map-Stmt, fold-roll-Stmt, ind-Branch, map-Branch, fold-roll-Branch}
use Rattle.sv_tree.specs.declared.tree.stmt.Arm.TheOpen.{Arm-F, Stmt-F, Branch-F}
use Rattle.sv_tree.specs.declared.tree.stmt.Arm.TheViews.{roll-Arm, roll-Stmt, roll-Branch}
use Rattle.sv_tree.specs.TreeRead.{Read, Each}
use Rattle.sv_tree.specs.TreeStmt.{BodyRead, read_arm, read_stmt, read_branch, arm_read, stmt_read, branch_read}

module _ (PA : Read → Type 0) (PS : BodyRead → Type 0) (PB : Read → Type 0) where
  -- what is known of the parts of an arm
  abbrev pub ArmParts : Arm-F Read BodyRead Read → Type 0
  ArmParts (Arm-F.Labels first more colon body) = PS body
  ArmParts (Arm-F.Default word colon body) = PS body

  -- what is known of the parts of a statement
  abbrev pub StmtParts : Stmt-F Read BodyRead Read → Type 0
  StmtParts (Stmt-F.Empty t) = Unit {0}
  StmtParts (Stmt-F.Block begin name body end end_name) = Each PS body
  StmtParts (Stmt-F.If branches test body) = Each PB branches × PS body
  StmtParts (Stmt-F.IfElse branches last) = Each PB branches × PS last
  StmtParts (Stmt-F.Case word opens subject closes arms end) = Each PA arms
  StmtParts (Stmt-F.For head body) = PS body
  StmtParts (Stmt-F.Assign target mark value semicolon) = Unit {0}
  StmtParts (Stmt-F.Call name opens args closes semicolon) = Unit {0}

  -- what is known of the parts of a branch
  abbrev pub BranchParts : Branch-F Read BodyRead Read → Type 0
  BranchParts x = PS x.body

  module _
      (arm_kept : (x : Arm-F Read BodyRead Read) → ArmParts x → PA (read_arm x))
      (stmt_kept : (x : Stmt-F Read BodyRead Read) → StmtParts x → PS (read_stmt x))
      (branch_kept : (x : Branch-F Read BodyRead Read) → BranchParts x → PB (read_branch x))
    where
      abbrev ArmKeeps : Arm → Type 0
      ArmKeeps x = PA (arm_read x)

      abbrev StmtKeeps : Stmt → Type 0
      StmtKeeps x = PS (stmt_read x)

      abbrev BranchKeeps : Branch → Type 0
      BranchKeeps x = PB (branch_read x)

      abbrev KeptArm : Type 0
      KeptArm = Such the_family (claims ArmKeeps StmtKeeps BranchKeeps) member-Arm

      abbrev KeptStmt : Type 0
      KeptStmt = Such the_family (claims ArmKeeps StmtKeeps BranchKeeps) member-Stmt

      abbrev KeptBranch : Type 0
      KeptBranch = Such the_family (claims ArmKeeps StmtKeeps BranchKeeps) member-Branch

      each_arm : (xs : List KeptArm) → Each PA (map arm_read (map (λ x. x.0) xs))
      each_arm [] = tt
      each_arm (x ∷ xs) = (x.1, each_arm xs)

      each_stmt : (xs : List KeptStmt) → Each PS (map stmt_read (map (λ x. x.0) xs))
      each_stmt [] = tt
      each_stmt (x ∷ xs) = (x.1, each_stmt xs)

      each_branch : (xs : List KeptBranch) → Each PB (map branch_read (map (λ x. x.0) xs))
      each_branch [] = tt
      each_branch (x ∷ xs) = (x.1, each_branch xs)

      arm_rolled : (x : Arm-F Arm Stmt Branch) → arm_read (roll-Arm x) ≡ read_arm (map-Arm Arm Stmt Branch Read BodyRead Read arm_read stmt_read branch_read x)
      unfolding arm_read stmt_read branch_read
      arm_rolled = fold-roll-Arm Read BodyRead Read read_arm read_stmt read_branch

      stmt_rolled : (x : Stmt-F Arm Stmt Branch) → stmt_read (roll-Stmt x) ≡ read_stmt (map-Stmt Arm Stmt Branch Read BodyRead Read arm_read stmt_read branch_read x)
      unfolding arm_read stmt_read branch_read
      stmt_rolled = fold-roll-Stmt Read BodyRead Read read_arm read_stmt read_branch

      branch_rolled : (x : Branch-F Arm Stmt Branch) → branch_read (roll-Branch x) ≡ read_branch (map-Branch Arm Stmt Branch Read BodyRead Read arm_read stmt_read branch_read x)
      unfolding arm_read stmt_read branch_read
      branch_rolled = fold-roll-Branch Read BodyRead Read read_arm read_stmt read_branch

      arm_case : (x : Arm-F KeptArm KeptStmt KeptBranch) → ArmKeeps (roll-Arm (map-Arm KeptArm KeptStmt KeptBranch Arm Stmt Branch (λ x. x.0) (λ x. x.0) (λ x. x.0) x))
      arm_case (Arm-F.Labels first more colon body) = subst PA (sym (arm_rolled (Arm-F.Labels first more colon body.0))) (arm_kept (Arm-F.Labels first more colon (stmt_read body.0)) body.1)
      arm_case (Arm-F.Default word colon body) = subst PA (sym (arm_rolled (Arm-F.Default word colon body.0))) (arm_kept (Arm-F.Default word colon (stmt_read body.0)) body.1)

      stmt_case : (x : Stmt-F KeptArm KeptStmt KeptBranch) → StmtKeeps (roll-Stmt (map-Stmt KeptArm KeptStmt KeptBranch Arm Stmt Branch (λ x. x.0) (λ x. x.0) (λ x. x.0) x))
      stmt_case (Stmt-F.Empty t) = subst PS (sym (stmt_rolled (Stmt-F.Empty t))) (stmt_kept (Stmt-F.Empty t) tt)
      stmt_case (Stmt-F.Block begin name body end end_name) = subst PS (sym (stmt_rolled (Stmt-F.Block begin name (map (λ x. x.0) body) end end_name))) (stmt_kept (Stmt-F.Block begin name (map stmt_read (map (λ x. x.0) body)) end end_name) (each_stmt body))
      stmt_case (Stmt-F.If branches test body) = subst PS (sym (stmt_rolled (Stmt-F.If (map (λ x. x.0) branches) test body.0))) (stmt_kept (Stmt-F.If (map branch_read (map (λ x. x.0) branches)) test (stmt_read body.0)) (each_branch branches, body.1))
      stmt_case (Stmt-F.IfElse branches last) = subst PS (sym (stmt_rolled (Stmt-F.IfElse (map (λ x. x.0) branches) last.0))) (stmt_kept (Stmt-F.IfElse (map branch_read (map (λ x. x.0) branches)) (stmt_read last.0)) (each_branch branches, last.1))
      stmt_case (Stmt-F.Case word opens subject closes arms end) = subst PS (sym (stmt_rolled (Stmt-F.Case word opens subject closes (map (λ x. x.0) arms) end))) (stmt_kept (Stmt-F.Case word opens subject closes (map arm_read (map (λ x. x.0) arms)) end) (each_arm arms))
      stmt_case (Stmt-F.For head body) = subst PS (sym (stmt_rolled (Stmt-F.For head body.0))) (stmt_kept (Stmt-F.For head (stmt_read body.0)) body.1)
      stmt_case (Stmt-F.Assign target mark value semicolon) = subst PS (sym (stmt_rolled (Stmt-F.Assign target mark value semicolon))) (stmt_kept (Stmt-F.Assign target mark value semicolon) tt)
      stmt_case (Stmt-F.Call name opens args closes semicolon) = subst PS (sym (stmt_rolled (Stmt-F.Call name opens args closes semicolon))) (stmt_kept (Stmt-F.Call name opens args closes semicolon) tt)

      branch_case : (x : Branch-F KeptArm KeptStmt KeptBranch) → BranchKeeps (roll-Branch (map-Branch KeptArm KeptStmt KeptBranch Arm Stmt Branch (λ x. x.0) (λ x. x.0) (λ x. x.0) x))
      branch_case x = subst PB (sym (branch_rolled (record { test = x.test; body = x.body.0; else_word = x.else_word }))) (branch_kept (record { test = x.test; body = (stmt_read x.body.0); else_word = x.else_word }) x.body.1)

      pub arm_keeps : (x : Arm) → PA (arm_read x)
      arm_keeps = ind-Arm ArmKeeps StmtKeeps BranchKeeps
          (λ x y is. subst (λ x. ArmKeeps (roll-Arm x)) is (arm_case y))
          (λ x y is. subst (λ x. StmtKeeps (roll-Stmt x)) is (stmt_case y))
          (λ x y is. subst (λ x. BranchKeeps (roll-Branch x)) is (branch_case y))

      pub stmt_keeps : (x : Stmt) → PS (stmt_read x)
      stmt_keeps = ind-Stmt ArmKeeps StmtKeeps BranchKeeps
          (λ x y is. subst (λ x. ArmKeeps (roll-Arm x)) is (arm_case y))
          (λ x y is. subst (λ x. StmtKeeps (roll-Stmt x)) is (stmt_case y))
          (λ x y is. subst (λ x. BranchKeeps (roll-Branch x)) is (branch_case y))

      pub branch_keeps : (x : Branch) → PB (branch_read x)
      branch_keeps = ind-Branch ArmKeeps StmtKeeps BranchKeeps
          (λ x y is. subst (λ x. ArmKeeps (roll-Arm x)) is (arm_case y))
          (λ x y is. subst (λ x. StmtKeeps (roll-Stmt x)) is (stmt_case y))
          (λ x y is. subst (λ x. BranchKeeps (roll-Branch x)) is (branch_case y))
