-- How the items of a module read (IEEE 1800-2017 A.1.4, A.2.1 to A.2.6, A.4.1, A.4.2).
use Rattle.sv_tree.specs.declared.symbol.Symbol.TheVariants as sym
use Rattle.sv_tree.specs.declared.tree.item.Argument.{Argument}
use Rattle.sv_tree.specs.declared.tree.item.Assignment.{Assignment}
use Rattle.sv_tree.specs.declared.tree.item.Connected.{Connected}
use Rattle.sv_tree.specs.declared.tree.item.Connection.{Connection}
use Rattle.sv_tree.specs.declared.tree.item.Connections.{Connections}
use Rattle.sv_tree.specs.declared.tree.item.Connections.TheVariants.{Ordered, Named}
use Rattle.sv_tree.specs.declared.tree.item.Declaration.{Declaration}
use Rattle.sv_tree.specs.declared.tree.item.Dimension.{Dimension}
use Rattle.sv_tree.specs.declared.tree.item.Dimension.TheVariants.{Count, Bounds}
use Rattle.sv_tree.specs.declared.tree.item.Event.{Event}
use Rattle.sv_tree.specs.declared.tree.item.GenBlock.{GenBlock}
use Rattle.sv_tree.specs.declared.tree.item.GenBlock.TheFolds as items
use Rattle.sv_tree.specs.declared.tree.item.GenBlock.TheOpen.{GenBlock-F, Item-F, ItemBranch-F}
use Rattle.sv_tree.specs.declared.tree.item.Import.{Import}
use Rattle.sv_tree.specs.declared.tree.item.Initial.{Initial}
use Rattle.sv_tree.specs.declared.tree.item.Item.{Item}
use Rattle.sv_tree.specs.declared.tree.item.ItemBranch.{ItemBranch}
use Rattle.sv_tree.specs.declared.tree.item.Linkage.{Linkage}
use Rattle.sv_tree.specs.declared.tree.item.Overrides.{Overrides}
use Rattle.sv_tree.specs.declared.tree.stmt.LoopHead.{LoopHead}
use Rattle.sv_tree.specs.Symbol.{is_manner, is_parameter, is_always, is_edge, is_event_mark}
use Rattle.sv_tree.specs.TreeRead.{Read, one_of, token, ◌then◌, deeper, maybe, list_by, commas}
use Rattle.sv_tree.specs.TreeExpr.{expr, args_read}
use Rattle.sv_tree.specs.TreeWords.{range, data_type, variable_type, result_type, argument_type, setting}
use Rattle.sv_tree.specs.TreeStmt.{lvalue_read, loop_head, BodyRead, plain, ending_with, texts, block, branch, if_chain, if_else_chain, stmt_read}

-- ---- imports

abbrev pub linkage : Linkage → Read
linkage x = token sym.Name x.name then token sym.Assign x.mark

abbrev pub argument : Argument → Read
argument x = maybe (token sym.Input) x.input then argument_type x.kind then maybe (token sym.Name) x.name

abbrev pub import_read : Import → Read
import_read x =
    token sym.Import x.word then token sym.Text x.text then maybe (one_of is_manner) x.manner then maybe linkage x.linkage
    then token sym.Function x.function then result_type x.result then token sym.Name x.name
    then deeper (token sym.ParenOpen x.open then maybe (commas argument) x.args then token sym.ParenClose x.close)
    then token sym.Semicolon x.semicolon

-- ---- declarations and assignments

abbrev pub dimension : Dimension → Read
dimension (Count opens count closes) = deeper (token sym.BracketOpen opens then expr count then token sym.BracketClose closes)
dimension (Bounds bounds) = range bounds

abbrev pub initial : Initial → Read
initial x = token sym.Assign x.mark then expr x.value

abbrev pub declaration : Declaration → Read
declaration x = token sym.Name x.name then maybe dimension x.dimension then maybe initial x.value

abbrev pub assignment : Assignment → Read
assignment x = lvalue_read x.target then token sym.Assign x.mark then expr x.value

abbrev pub event : Event → Read
event x = one_of is_edge x.edge then token sym.Name x.name

-- ---- instances

abbrev pub connected : Connected → Read
connected x = token sym.ParenOpen x.open then maybe expr x.value then token sym.ParenClose x.close

abbrev pub connection : Connection → Read
connection x = token sym.Dot x.dot then token sym.Name x.name then maybe connected x.value

abbrev pub connections : Connections → Read
connections (Ordered args) = args_read args
connections (Named list) = commas connection list

abbrev pub overrides : Overrides → Read
overrides x = token sym.Hash x.hash then token sym.ParenOpen x.open then connections x.connections then token sym.ParenClose x.close

-- ---- one layer of an item, over what its parts read as

-- the loop of an item may declare its genvar
abbrev pub item_loop : LoopHead → Read
item_loop = loop_head (maybe (token sym.Genvar))

abbrev pub read_item : Item-F BodyRead BodyRead Read → BodyRead
read_item (Item-F.Empty t) = plain (token sym.Semicolon t)
read_item (Item-F.Import x) = plain (import_read x)
read_item (Item-F.Parameters word kind settings semicolon) =
    plain (one_of is_parameter word then maybe data_type kind then commas setting settings then token sym.Semicolon semicolon)
read_item (Item-F.Variables kind declarations semicolon) =
    plain (variable_type kind then commas declaration declarations then token sym.Semicolon semicolon)
read_item (Item-F.Assigns word assignments semicolon) =
    plain (token sym.AssignWord word then commas assignment assignments then token sym.Semicolon semicolon)
read_item (Item-F.Comb word body) =
    let b = stmt_read body in ending_with b (token sym.AlwaysComb word then b.text)
read_item (Item-F.Star word at star body) =
    let b = stmt_read body in ending_with b (token sym.Always word then token sym.At at then token sym.Star star then b.text)
read_item (Item-F.ParenStar word at opens star closes body) =
    let b = stmt_read body in
    ending_with b (
    token sym.Always word then token sym.At at then token sym.ParenOpen opens then token sym.Star star then token sym.ParenClose closes then b.text)
read_item (Item-F.Clocked word at opens events closes body) =
    let b = stmt_read body in
    ending_with b (
    one_of is_always word then token sym.At at then token sym.ParenOpen opens then list_by is_event_mark event events
    then token sym.ParenClose closes then b.text)
read_item (Item-F.Genvars word names semicolon) =
    plain (token sym.Genvar word then commas (token sym.Name) names then token sym.Semicolon semicolon)
read_item (Item-F.Generate word parts end) = plain (deeper (token sym.Generate word then texts parts then token sym.Endgenerate end))
read_item (Item-F.For head body) = ending_with body (deeper (item_loop head then body.text))
read_item (Item-F.If branches x body) = if_chain branches x body
read_item (Item-F.IfElse branches last) = if_else_chain branches last
read_item (Item-F.Instance child changes name opens ports closes semicolon) =
    plain (
    token sym.Name child then maybe overrides changes then token sym.Name name
    then token sym.ParenOpen opens then connections ports then token sym.ParenClose closes then token sym.Semicolon semicolon)

abbrev pub read_gen_block : GenBlock-F BodyRead BodyRead Read → BodyRead
read_gen_block (GenBlock-F.Item x) = x
read_gen_block (GenBlock-F.Block begin name parts end end_name) = block begin name parts end end_name

abbrev pub read_item_branch : ItemBranch-F BodyRead BodyRead Read → Read
read_item_branch x = branch x.test x.body x.else_word

-- ---- whole items

unfoldable pub gen_block_read : GenBlock → BodyRead
gen_block_read = items.fold-GenBlock BodyRead BodyRead Read read_gen_block read_item read_item_branch

unfoldable pub item_read : Item → BodyRead
item_read = items.fold-Item BodyRead BodyRead Read read_gen_block read_item read_item_branch

unfoldable pub item_branch_read : ItemBranch → Read
item_branch_read = items.fold-ItemBranch BodyRead BodyRead Read read_gen_block read_item read_item_branch
