-- What statements write and read. They write the bits of the left sides of their assignments, and they read what stands in their
-- expressions and in the indices of their left sides (IEEE 1800-2017 10.3, 10.4).
use Rattle.std.specs.Prelude.{ℕ, Bool, List, [], ◌∷◌, ◌++◌, map}
use Rattle.rtl_ir.specs.declared.expr.Target.{Target}
use Rattle.rtl_ir.specs.declared.expr.Expr.{Expr}
use Rattle.rtl_ir.specs.declared.stmt.Place.{Place}
use Rattle.rtl_ir.specs.declared.stmt.Stmt.{Stmt}
use Rattle.rtl_ir.specs.declared.stmt.Arm.{Arm}
use Rattle.rtl_ir.specs.declared.stmt.Branch.{Branch}
use Rattle.rtl_ir.specs.declared.stmt.Stmt.TheOpen.{Stmt-F, Arm-F, Branch-F}
use Rattle.rtl_ir.specs.declared.stmt.Stmt.TheFolds as stmts
use Rattle.rtl_pieces.specs.declared.item.Item.{Item}
use Rattle.rtl_pieces.specs.Reads.{Notes, nothing_more, in_order, target_bits, target_indices, expr_reads, exprs_read, call_reads}

module _ (item : Bool → ℕ → Item) where
  abbrev pub target_writes : Target → Notes
  target_writes t found = found ++ target_bits item t ∷ []

  abbrev pub place_writes : Place → Notes
  place_writes place = in_order (map target_writes place.parts)

  abbrev pub place_reads : Place → Notes
  place_reads place = in_order (map (target_indices item) place.parts)

  -- the value, and then the indices of the left side
  abbrev pub assignment_reads : Place → Expr → Notes
  assignment_reads place value found = place_reads place (expr_reads item value found)

  -- ---- writes, one layer over what its parts write

  abbrev pub write_stmt : Stmt-F Notes Notes Notes → Notes
  write_stmt (Stmt-F.Write place value) = place_writes place
  write_stmt (Stmt-F.Later place value) = place_writes place
  write_stmt (Stmt-F.If branches rest) = λ found. in_order rest (in_order branches found)
  write_stmt (Stmt-F.Case subject arms rest) = λ found. in_order rest (in_order arms found)
  write_stmt (Stmt-F.Do call) = nothing_more

  abbrev pub write_arm : Arm-F Notes Notes Notes → Notes
  write_arm arm = in_order arm.body

  abbrev pub write_branch : Branch-F Notes Notes Notes → Notes
  write_branch branch = in_order branch.body

  -- ---- reads, one layer over what its parts read

  abbrev pub read_stmt : Stmt-F Notes Notes Notes → Notes
  read_stmt (Stmt-F.Write place value) = assignment_reads place value
  read_stmt (Stmt-F.Later place value) = assignment_reads place value
  read_stmt (Stmt-F.If branches rest) = λ found. in_order rest (in_order branches found)
  read_stmt (Stmt-F.Case subject arms rest) = λ found. in_order rest (in_order arms (expr_reads item subject found))
  read_stmt (Stmt-F.Do call) = call_reads item call

  abbrev pub read_arm : Arm-F Notes Notes Notes → Notes
  read_arm arm = λ found. in_order arm.body (exprs_read item arm.labels found)

  abbrev pub read_branch : Branch-F Notes Notes Notes → Notes
  read_branch branch = λ found. in_order branch.body (expr_reads item branch.test found)

  -- ---- whole statements

  unfoldable pub stmt_writes : Stmt → Notes
  stmt_writes = stmts.fold-Stmt Notes Notes Notes write_stmt write_arm write_branch

  unfoldable pub arm_writes : Arm → Notes
  arm_writes = stmts.fold-Arm Notes Notes Notes write_stmt write_arm write_branch

  unfoldable pub branch_writes : Branch → Notes
  branch_writes = stmts.fold-Branch Notes Notes Notes write_stmt write_arm write_branch

  unfoldable pub stmt_reads : Stmt → Notes
  stmt_reads = stmts.fold-Stmt Notes Notes Notes read_stmt read_arm read_branch

  unfoldable pub arm_reads : Arm → Notes
  arm_reads = stmts.fold-Arm Notes Notes Notes read_stmt read_arm read_branch

  unfoldable pub branch_reads : Branch → Notes
  branch_reads = stmts.fold-Branch Notes Notes Notes read_stmt read_arm read_branch

  abbrev pub body_writes : List Stmt → Notes
  body_writes body = in_order (map stmt_writes body)

  abbrev pub body_reads : List Stmt → Notes
  body_reads body = in_order (map stmt_reads body)
