-- When a statement fits a design.
use Rattle.std.specs.Prelude.{Bool, ◌&&◌}
use Rattle.std.specs.List.{list_all}
use Rattle.rtl_ir.specs.declared.counts.Counts.{Counts}
use Rattle.rtl_ir.specs.declared.stmt.Place.{Place}
use Rattle.rtl_ir.specs.declared.stmt.Stmt.{Stmt}
use Rattle.rtl_ir.specs.declared.stmt.Arm.{Arm}
use Rattle.rtl_ir.specs.declared.stmt.Branch.{Branch}
use Rattle.rtl_ir.specs.declared.stmt.Stmt.TheOpen.{Stmt-F, Arm-F, Branch-F}
use Rattle.rtl_ir.specs.declared.stmt.Stmt.TheFolds as stmts
use Rattle.rtl_ir.specs.Within.{all_true, expr_fits, call_fits, target_fits}

module _ (counts : Counts) where
  abbrev pub place_fits : Place → Bool
  place_fits place = list_all (target_fits counts) place.parts

  -- ---- one layer, over whether its parts fit

  abbrev pub stmt_layer : Stmt-F Bool Bool Bool → Bool
  stmt_layer (Stmt-F.Write place value) = place_fits place && expr_fits counts value
  stmt_layer (Stmt-F.Later place value) = place_fits place && expr_fits counts value
  stmt_layer (Stmt-F.If branches rest) = all_true branches && all_true rest
  stmt_layer (Stmt-F.Case subject arms rest) = expr_fits counts subject && (all_true arms && all_true rest)
  stmt_layer (Stmt-F.Do call) = call_fits counts call

  abbrev pub arm_layer : Arm-F Bool Bool Bool → Bool
  arm_layer arm = list_all (expr_fits counts) arm.labels && all_true arm.body

  abbrev pub branch_layer : Branch-F Bool Bool Bool → Bool
  branch_layer branch = expr_fits counts branch.test && all_true branch.body

  -- ---- whole statements

  unfoldable pub stmt_fits : Stmt → Bool
  stmt_fits = stmts.fold-Stmt Bool Bool Bool stmt_layer arm_layer branch_layer

  unfoldable pub arm_fits : Arm → Bool
  arm_fits = stmts.fold-Arm Bool Bool Bool stmt_layer arm_layer branch_layer

  unfoldable pub branch_fits : Branch → Bool
  branch_fits = stmts.fold-Branch Bool Bool Bool stmt_layer arm_layer branch_layer
