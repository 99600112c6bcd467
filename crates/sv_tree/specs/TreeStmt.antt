-- How statements read (IEEE 1800-2017 A.6.2 to A.6.8, A.8.5).
use Rattle.std.specs.Prelude.{Bool, true, false, not, ◌&&◌, List, Option}
use Rattle.std.specs.Option.{is_some}
use Rattle.sv_tree.specs.declared.symbol.Symbol.TheVariants as sym
use Rattle.sv_tree.specs.declared.token.Token.{Token}
use Rattle.sv_tree.specs.declared.tree.stmt.Arm.{Arm}
use Rattle.sv_tree.specs.declared.tree.stmt.Arm.TheFolds as stmts
use Rattle.sv_tree.specs.declared.tree.stmt.Arm.TheOpen.{Arm-F, Stmt-F, Branch-F}
use Rattle.sv_tree.specs.declared.tree.stmt.Branch.{Branch}
use Rattle.sv_tree.specs.declared.tree.stmt.LoopHead.{LoopHead}
use Rattle.sv_tree.specs.declared.tree.stmt.LoopStep.{LoopStep}
use Rattle.sv_tree.specs.declared.tree.stmt.LoopStep.TheVariants.{Set, After, Before}
use Rattle.sv_tree.specs.declared.tree.stmt.Lvalue.{Lvalue}
use Rattle.sv_tree.specs.declared.tree.stmt.Lvalue.TheFolds as lvalues
use Rattle.sv_tree.specs.declared.tree.stmt.Lvalue.TheOpen.{Lvalue-F, LvalueStep-F}
use Rattle.sv_tree.specs.declared.tree.stmt.LvalueStep.{LvalueStep}
use Rattle.sv_tree.specs.declared.tree.stmt.Stmt.{Stmt}
use Rattle.sv_tree.specs.declared.tree.stmt.Test.{Test}
use Rattle.sv_tree.specs.declared.tree.words.Label.{Label}
use Rattle.sv_tree.specs.Symbol.{is_loop_type, is_loop_assign, is_count, is_assign}
use Rattle.sv_tree.specs.TreeRead.{Read, one_of, token, ◌then◌, deeper, asks, maybe, each, all_of}
use Rattle.sv_tree.specs.TreeExpr.{is_empty, expr, args_read, selects, steps}
use Rattle.sv_tree.specs.TreeWords.{label, setting, setting_by}

-- ---- what is assigned

abbrev pub read_lvalue : Lvalue-F Read Read → Read
read_lvalue (Lvalue-F.Name name chosen) = token sym.Name name then selects chosen
read_lvalue (Lvalue-F.Concat opens first more closes) =
    deeper (token sym.BraceOpen opens then first then all_of more then token sym.BraceClose closes)

abbrev pub read_lvalue_step : LvalueStep-F Read Read → Read
read_lvalue_step x = token sym.Comma x.comma then x.target

unfoldable pub lvalue_read : Lvalue → Read
lvalue_read = lvalues.fold-Lvalue Read Read read_lvalue read_lvalue_step

unfoldable pub lvalue_step_read : LvalueStep → Read
lvalue_step_read = lvalues.fold-LvalueStep Read Read read_lvalue read_lvalue_step

-- ---- heads

abbrev pub test : Test → Read
test x = token sym.If x.word then token sym.ParenOpen x.open then expr x.test then token sym.ParenClose x.close

abbrev pub loop_step : LoopStep → Read
loop_step (Set x) = setting_by is_loop_assign x
loop_step (After name mark) = token sym.Name name then one_of is_count mark
loop_step (Before mark name) = one_of is_count mark then token sym.Name name

abbrev pub loop_head : (Option Token → Read) → LoopHead → Read
loop_head kind x =
    token sym.For x.word then token sym.ParenOpen x.open then kind x.kind then setting x.start then token sym.Semicolon x.first
    then expr x.test then token sym.Semicolon x.second then loop_step x.step then token sym.ParenClose x.close

-- the loop of a statement declares its variable
abbrev pub stmt_loop : LoopHead → Read
stmt_loop = loop_head (λ kind. asks (λ s. is_some kind) then maybe (one_of is_loop_type) kind)

-- ---- bodies: statements, items and blocks of items

-- what may stand after an `if` or an `else`
pub record BodyRead : Type 0 where
  pub text : Read
  -- it is an `if` itself
  pub is_if : Bool
  -- an `else` after it would belong to an `if` at its end
  pub takes_else : Bool

abbrev pub plain : Read → BodyRead
plain a = record { text = a; is_if = false; takes_else = false }

-- something that ends with a body
abbrev pub ending_with : BodyRead → Read → BodyRead
ending_with body a = record { text = a; is_if = false; takes_else = body.takes_else }

abbrev pub texts : List BodyRead → Read
texts = each (λ x. x.text)

abbrev pub block : Token → Option Label → List BodyRead → Token → Option Label → BodyRead
block begin name parts end end_name =
    plain (deeper (token sym.Begin begin then maybe label name then texts parts then token sym.End end then maybe label end_name))

-- a test with its body, which an `else` follows: that `else` belongs to the nearest `if`
abbrev pub branch : Test → BodyRead → Token → Read
branch x body else_word = asks (λ s. not body.takes_else) then test x then body.text then token sym.Else else_word

-- the tests of one chain stand beside one another, and each body in the chain
abbrev pub if_chain : List Read → Test → BodyRead → BodyRead
if_chain branches x body = record { text = deeper (all_of branches then test x then body.text); is_if = true; takes_else = true }

-- what follows the last `else` is no `if`, which would belong to the chain
abbrev pub if_else_chain : List Read → BodyRead → BodyRead
if_else_chain branches last = record {
  text = deeper (asks (λ s. not (is_empty branches) && not last.is_if) then all_of branches then last.text);
  is_if = true;
  takes_else = last.takes_else;
}

-- ---- one layer of a statement, over what its parts read as

abbrev pub read_arm : Arm-F Read BodyRead Read → Read
read_arm (Arm-F.Labels first more colon body) = expr first then steps more then token sym.Colon colon then body.text
read_arm (Arm-F.Default word colon body) = token sym.Default word then maybe (token sym.Colon) colon then body.text

abbrev pub read_branch : Branch-F Read BodyRead Read → Read
read_branch x = branch x.test x.body x.else_word

abbrev pub read_stmt : Stmt-F Read BodyRead Read → BodyRead
read_stmt (Stmt-F.Empty t) = plain (deeper (token sym.Semicolon t))
read_stmt (Stmt-F.Block begin name body end end_name) = block begin name body end end_name
read_stmt (Stmt-F.If branches x body) = if_chain branches x body
read_stmt (Stmt-F.IfElse branches last) = if_else_chain branches last
read_stmt (Stmt-F.Case word opens subject closes arms end) =
    plain (deeper (
    token sym.Case word then token sym.ParenOpen opens then expr subject then token sym.ParenClose closes
    then all_of arms then token sym.Endcase end))
read_stmt (Stmt-F.For head body) = ending_with body (deeper (stmt_loop head then body.text))
read_stmt (Stmt-F.Assign target mark value semicolon) =
    plain (deeper (lvalue_read target then one_of is_assign mark then expr value then token sym.Semicolon semicolon))
read_stmt (Stmt-F.Call name opens args closes semicolon) =
    plain (deeper (
    token sym.Name name then deeper (token sym.ParenOpen opens then args_read args then token sym.ParenClose closes)
    then token sym.Semicolon semicolon))

-- ---- whole statements

unfoldable pub arm_read : Arm → Read
arm_read = stmts.fold-Arm Read BodyRead Read read_arm read_stmt read_branch

unfoldable pub stmt_read : Stmt → BodyRead
stmt_read = stmts.fold-Stmt Read BodyRead Read read_arm read_stmt read_branch

unfoldable pub branch_read : Branch → Read
branch_read = stmts.fold-Branch Read BodyRead Read read_arm read_stmt read_branch
