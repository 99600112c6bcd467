-- How the parts of statements read that are no production of their own.
use Rattle.std.specs.Prelude.{List}
use Rattle.sv_tree.specs.declared.symbol.Symbol.{Symbol}
use Rattle.sv_tree.specs.declared.symbol.Symbol.TheVariants as sym
use Rattle.sv_tree.specs.declared.token.Token.{Token}
use Rattle.sv_tree.specs.declared.tree.stmt.Arm.{Arm}
use Rattle.sv_tree.specs.declared.tree.stmt.Arm.TheVariants as arms
use Rattle.sv_tree.specs.declared.tree.stmt.Stmt.{Stmt}
use Rattle.sv_tree.specs.declared.tree.stmt.Stmt.TheVariants as stmts
use Rattle.sv_tree.specs.TreeExpr.{expr, steps}
use Rattle.sv_tree.specs.TreeRead.{Read, token, ◌then◌, maybe}
use Rattle.sv_tree.specs.TreeStmt.{loop_step}
use Rattle.sv_tree.specs.TreeWords.{label, setting}
use Rattle.parse_stmt.specs.declared.cases.ArmHead.{ArmHead}
use Rattle.parse_stmt.specs.declared.cases.ArmHead.TheVariants.{Labels, Default}
use Rattle.parse_stmt.specs.declared.cases.CaseHead.{CaseHead}
use Rattle.parse_stmt.specs.declared.edges.NamedWord.{NamedWord}
use Rattle.parse_stmt.specs.declared.heads.LoopRest.{LoopRest}

-- a word that opens or closes something, and the name that may stand after it
abbrev pub named_word : Symbol → NamedWord → Read
named_word s x = token s x.word then maybe label x.label

-- the head of a loop from its variable on
abbrev pub loop_rest : LoopRest → Read
loop_rest x =
    setting x.start then token sym.Semicolon x.first then expr x.test then token sym.Semicolon x.second
    then loop_step x.step then token sym.ParenClose x.close

-- `"case" "(" expr ")"`
abbrev pub case_head : CaseHead → Read
case_head x = token sym.Case x.word then token sym.ParenOpen x.open then expr x.subject then token sym.ParenClose x.close

-- an arm of a `case` up to its statement
abbrev pub arm_head : ArmHead → Read
arm_head (Labels labels colon) = expr labels.first then steps labels.more then token sym.Colon colon
arm_head (Default word colon) = token sym.Default word then maybe (token sym.Colon) colon

-- ---- forms, of these parts and the statements in them

abbrev pub arm : ArmHead → Stmt → Arm
arm (Labels labels colon) body = arms.Labels labels.first labels.more colon body
arm (Default word colon) body = arms.Default word colon body

abbrev pub case_of : CaseHead → List Arm → Token → Stmt
case_of x parts end = stmts.Case x.word x.open x.subject x.close parts end
