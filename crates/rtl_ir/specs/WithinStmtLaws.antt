-- The equations of what fits a design, one for each form of a statement.
use Rattle.std.proofs.Common.{◌≡◌, Bool, ◌&&◌, List, map, sym, ap, ◌∙◌}
use Rattle.std.specs.List.{list_all}
use Rattle.rtl_ir.specs.declared.counts.Counts.{Counts}
use Rattle.rtl_ir.specs.declared.expr.Expr.{Expr}
use Rattle.rtl_ir.specs.declared.expr.Call.{Call}
use Rattle.rtl_ir.specs.declared.stmt.Place.{Place}
use Rattle.rtl_ir.specs.declared.stmt.Stmt.{Stmt}
use Rattle.rtl_ir.specs.declared.stmt.Arm.{Arm, out-Arm}
use Rattle.rtl_ir.specs.declared.stmt.Branch.{Branch, out-Branch}
use Rattle.rtl_ir.specs.declared.stmt.Stmt.TheOpen.{Stmt-F}
use Rattle.rtl_ir.specs.declared.stmt.Stmt.TheFolds.{fold-roll-Stmt, fold_out-Arm, fold_out-Branch}
use Rattle.rtl_ir.specs.declared.stmt.Stmt.TheVariants as stmt
use Rattle.rtl_ir.specs.Within.{all_true, expr_fits, call_fits}
use Rattle.rtl_ir.specs.WithinLaws.{all_true_map}
use Rattle.rtl_ir.specs.WithinStmt.{place_fits, stmt_layer, arm_layer, branch_layer, stmt_fits, arm_fits, branch_fits}

module _ (counts : Counts) where
  pub stmt-Write : (place : Place) (value : Expr) → stmt_fits counts (stmt.Write place value) ≡ (place_fits counts place && expr_fits counts value)
  unfolding stmt_fits
  stmt-Write place value = ap (stmt_fits counts) (sym (stmt.rolls-Write place value)) ∙ fold-roll-Stmt Bool Bool Bool (stmt_layer counts) (arm_layer counts) (branch_layer counts) (Stmt-F.Write place value)

  pub stmt-Later : (place : Place) (value : Expr) → stmt_fits counts (stmt.Later place value) ≡ (place_fits counts place && expr_fits counts value)
  unfolding stmt_fits
  stmt-Later place value = ap (stmt_fits counts) (sym (stmt.rolls-Later place value)) ∙ fold-roll-Stmt Bool Bool Bool (stmt_layer counts) (arm_layer counts) (branch_layer counts) (Stmt-F.Later place value)

  pub stmt-If : (branches : List Branch) (rest : List Stmt) → stmt_fits counts (stmt.If branches rest) ≡ (list_all (branch_fits counts) branches && list_all (stmt_fits counts) rest)
  unfolding stmt_fits branch_fits
  stmt-If branches rest = ap (stmt_fits counts) (sym (stmt.rolls-If branches rest)) ∙ fold-roll-Stmt Bool Bool Bool (stmt_layer counts) (arm_layer counts) (branch_layer counts) (Stmt-F.If branches rest)
      ∙ ap (λ b. b && all_true (map (stmt_fits counts) rest)) (all_true_map (branch_fits counts) branches)
      ∙ ap (λ b. list_all (branch_fits counts) branches && b) (all_true_map (stmt_fits counts) rest)

  pub stmt-Case : (subject : Expr) (arms : List Arm) (rest : List Stmt) → stmt_fits counts (stmt.Case subject arms rest) ≡ (expr_fits counts subject && (list_all (arm_fits counts) arms && list_all (stmt_fits counts) rest))
  unfolding stmt_fits arm_fits
  stmt-Case subject arms rest = ap (stmt_fits counts) (sym (stmt.rolls-Case subject arms rest)) ∙ fold-roll-Stmt Bool Bool Bool (stmt_layer counts) (arm_layer counts) (branch_layer counts) (Stmt-F.Case subject arms rest)
      ∙ ap (λ b. expr_fits counts subject && (b && all_true (map (stmt_fits counts) rest))) (all_true_map (arm_fits counts) arms)
      ∙ ap (λ b. expr_fits counts subject && (list_all (arm_fits counts) arms && b)) (all_true_map (stmt_fits counts) rest)

  pub stmt-Do : (call : Call) → stmt_fits counts (stmt.Do call) ≡ call_fits counts call
  unfolding stmt_fits
  stmt-Do call = ap (stmt_fits counts) (sym (stmt.rolls-Do call)) ∙ fold-roll-Stmt Bool Bool Bool (stmt_layer counts) (arm_layer counts) (branch_layer counts) (Stmt-F.Do call)

  pub arm_is : (arm : Arm) → arm_fits counts arm ≡ (list_all (expr_fits counts) (out-Arm arm).labels && list_all (stmt_fits counts) (out-Arm arm).body)
  unfolding stmt_fits arm_fits
  arm_is arm = fold_out-Arm Bool Bool Bool (stmt_layer counts) (arm_layer counts) (branch_layer counts) arm
      ∙ ap (λ b. list_all (expr_fits counts) (out-Arm arm).labels && b) (all_true_map (stmt_fits counts) (out-Arm arm).body)

  pub branch_is : (branch : Branch) → branch_fits counts branch ≡ (expr_fits counts (out-Branch branch).test && list_all (stmt_fits counts) (out-Branch branch).body)
  unfolding stmt_fits branch_fits
  branch_is branch = fold_out-Branch Bool Bool Bool (stmt_layer counts) (arm_layer counts) (branch_layer counts) branch
      ∙ ap (λ b. expr_fits counts (out-Branch branch).test && b) (all_true_map (stmt_fits counts) (out-Branch branch).body)

pub ruleset laws = (stmt-Write, stmt-Later, stmt-If, stmt-Case, stmt-Do, arm_is, branch_is)
