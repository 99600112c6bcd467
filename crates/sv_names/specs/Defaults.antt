-- At most one `default` in each `case` (IEEE 1800-2017 12.5): the first word that is a second one.
use Rattle.std.specs.Prelude.{Bool, true, false, ◌||◌, List, [], ◌∷◌, Option, None, Some}
use Rattle.std.specs.Option.{is_some}
use Rattle.sv_tree.specs.declared.token.Token.{Token}
use Rattle.sv_tree.specs.declared.tree.stmt.Arm.{Arm}
use Rattle.sv_tree.specs.declared.tree.stmt.Arm.TheFolds as stmts
use Rattle.sv_tree.specs.declared.tree.stmt.Arm.TheOpen.{Arm-F, Stmt-F, Branch-F}
use Rattle.sv_tree.specs.declared.tree.stmt.Branch.{Branch}
use Rattle.sv_tree.specs.declared.tree.stmt.Stmt.{Stmt}

-- from what was found before a part to what is found with it
abbrev pub Notes : Type 0
Notes = Option Token → Option Token

-- one part after another
abbrev pub in_order : List Notes → Notes
in_order [] found = found
in_order (part ∷ more) found = in_order more (part found)

-- the first of two that are there
abbrev pub either : Option Token → Token → Option Token
either None word = Some word
either (Some before) word = Some before

-- a `default`, of which it is known whether one stood before it in its `case`
abbrev pub note_word : Bool → Token → Notes
note_word true word found = either found word
note_word false word found = found

-- an arm: its word, where it is a `default`, and what its body notes
pub record ArmNotes : Type 0 where
  pub word : Option Token
  pub body : Notes

abbrev pub note_arm_word : Bool → Option Token → Notes
note_arm_word before None found = found
note_arm_word before (Some word) found = note_word before word found

abbrev pub arm_in_order : Bool → ArmNotes → Notes
arm_in_order before arm found = arm.body (note_arm_word before arm.word found)

-- the arms of a `case`, of which it is known whether a `default` stood before them
abbrev pub arms_in_order : Bool → List ArmNotes → Notes
arms_in_order before [] found = found
arms_in_order before (arm ∷ more) found = arms_in_order (before || is_some arm.word) more (arm_in_order before arm found)

abbrev pub note_arm : Arm-F ArmNotes Notes Notes → ArmNotes
note_arm (Arm-F.Labels first more colon body) = record { word = None; body = body }
note_arm (Arm-F.Default word colon body) = record { word = Some word; body = body }

abbrev pub note_branch : Branch-F ArmNotes Notes Notes → Notes
note_branch x = x.body

abbrev pub note_stmt : Stmt-F ArmNotes Notes Notes → Notes
note_stmt (Stmt-F.Block begin name body end end_name) = in_order body
note_stmt (Stmt-F.If branches test body) = λ found. body (in_order branches found)
note_stmt (Stmt-F.IfElse branches last) = λ found. last (in_order branches found)
note_stmt (Stmt-F.Case word opens subject closes arms end) = arms_in_order false arms
note_stmt (Stmt-F.For head body) = body
note_stmt _ = λ found. found

unfoldable pub arm_notes : Arm → ArmNotes
arm_notes = stmts.fold-Arm ArmNotes Notes Notes note_arm note_stmt note_branch

unfoldable pub stmt_notes : Stmt → Notes
stmt_notes = stmts.fold-Stmt ArmNotes Notes Notes note_arm note_stmt note_branch

unfoldable pub branch_notes : Branch → Notes
branch_notes = stmts.fold-Branch ArmNotes Notes Notes note_arm note_stmt note_branch

-- the first second `default` in a statement
abbrev pub second_default : Stmt → Option Token
second_default body = stmt_notes body None
