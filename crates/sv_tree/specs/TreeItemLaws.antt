-- The equations of what an item reads as, one for each form.
use Rattle.std.proofs.Common.{◌≡◌, List, map, Option, sym, ap, ◌∙◌}
use Rattle.sv_tree.specs.declared.token.Token.{Token}
use Rattle.sv_tree.specs.declared.tree.item.Assignment.{Assignment}
use Rattle.sv_tree.specs.declared.tree.item.Connections.{Connections}
use Rattle.sv_tree.specs.declared.tree.item.Declaration.{Declaration}
use Rattle.sv_tree.specs.declared.tree.item.Event.{Event}
use Rattle.sv_tree.specs.declared.tree.item.GenBlock.{GenBlock}
use Rattle.sv_tree.specs.declared.tree.item.GenBlock.TheFolds.{fold-roll-GenBlock, fold-roll-Item, fold-roll-ItemBranch}
use Rattle.sv_tree.specs.declared.tree.item.GenBlock.TheOpen.{GenBlock-F, Item-F}
use Rattle.sv_tree.specs.declared.tree.item.GenBlock.TheVariants as gen_block
use Rattle.sv_tree.specs.declared.tree.item.Import.{Import}
use Rattle.sv_tree.specs.declared.tree.item.Item.{Item}
use Rattle.sv_tree.specs.declared.tree.item.Item.TheVariants as item
use Rattle.sv_tree.specs.declared.tree.item.ItemBranch.{ItemBranch, roll-ItemBranch}
use Rattle.sv_tree.specs.declared.tree.item.Overrides.{Overrides}
use Rattle.sv_tree.specs.declared.tree.list.CommaList.{CommaList}
use Rattle.sv_tree.specs.declared.tree.stmt.LoopHead.{LoopHead}
use Rattle.sv_tree.specs.declared.tree.stmt.Stmt.{Stmt}
use Rattle.sv_tree.specs.declared.tree.stmt.Test.{Test}
use Rattle.sv_tree.specs.declared.tree.words.DataType.{DataType}
use Rattle.sv_tree.specs.declared.tree.words.Label.{Label}
use Rattle.sv_tree.specs.declared.tree.words.Setting.{Setting}
use Rattle.sv_tree.specs.TreeRead.{Read}
use Rattle.sv_tree.specs.TreeStmt.{BodyRead}
use Rattle.sv_tree.specs.TreeItem.{read_gen_block, read_item, read_item_branch, gen_block_read, item_read, item_branch_read}

pub item-Empty : (t : Token) → item_read (item.Empty t) ≡ read_item (Item-F.Empty t)
unfolding item_read
item-Empty t = ap item_read (sym (item.rolls-Empty t)) ∙ fold-roll-Item BodyRead BodyRead Read read_gen_block read_item read_item_branch (Item-F.Empty t)

pub item-Import : (x : Import) → item_read (item.Import x) ≡ read_item (Item-F.Import x)
unfolding item_read
item-Import x = ap item_read (sym (item.rolls-Import x)) ∙ fold-roll-Item BodyRead BodyRead Read read_gen_block read_item read_item_branch (Item-F.Import x)

pub item-Parameters : (word : Token) (kind : Option DataType) (settings : CommaList Setting) (semicolon : Token) → item_read (item.Parameters word kind settings semicolon) ≡ read_item (Item-F.Parameters word kind settings semicolon)
unfolding item_read
item-Parameters word kind settings semicolon = ap item_read (sym (item.rolls-Parameters word kind settings semicolon)) ∙ fold-roll-Item BodyRead BodyRead Read read_gen_block read_item read_item_branch (Item-F.Parameters word kind settings semicolon)

pub item-Variables : (kind : DataType) (declarations : CommaList Declaration) (semicolon : Token) → item_read (item.Variables kind declarations semicolon) ≡ read_item (Item-F.Variables kind declarations semicolon)
unfolding item_read
item-Variables kind declarations semicolon = ap item_read (sym (item.rolls-Variables kind declarations semicolon)) ∙ fold-roll-Item BodyRead BodyRead Read read_gen_block read_item read_item_branch (Item-F.Variables kind declarations semicolon)

pub item-Assigns : (word : Token) (assignments : CommaList Assignment) (semicolon : Token) → item_read (item.Assigns word assignments semicolon) ≡ read_item (Item-F.Assigns word assignments semicolon)
unfolding item_read
item-Assigns word assignments semicolon = ap item_read (sym (item.rolls-Assigns word assignments semicolon)) ∙ fold-roll-Item BodyRead BodyRead Read read_gen_block read_item read_item_branch (Item-F.Assigns word assignments semicolon)

pub item-Comb : (word : Token) (body : Stmt) → item_read (item.Comb word body) ≡ read_item (Item-F.Comb word body)
unfolding item_read
item-Comb word body = ap item_read (sym (item.rolls-Comb word body)) ∙ fold-roll-Item BodyRead BodyRead Read read_gen_block read_item read_item_branch (Item-F.Comb word body)

pub item-Star : (word at star : Token) (body : Stmt) → item_read (item.Star word at star body) ≡ read_item (Item-F.Star word at star body)
unfolding item_read
item-Star word at star body = ap item_read (sym (item.rolls-Star word at star body)) ∙ fold-roll-Item BodyRead BodyRead Read read_gen_block read_item read_item_branch (Item-F.Star word at star body)

pub item-ParenStar : (word at opens star closes : Token) (body : Stmt) → item_read (item.ParenStar word at opens star closes body) ≡ read_item (Item-F.ParenStar word at opens star closes body)
unfolding item_read
item-ParenStar word at opens star closes body = ap item_read (sym (item.rolls-ParenStar word at opens star closes body)) ∙ fold-roll-Item BodyRead BodyRead Read read_gen_block read_item read_item_branch (Item-F.ParenStar word at opens star closes body)

pub item-Clocked : (word at opens : Token) (events : CommaList Event) (closes : Token) (body : Stmt) → item_read (item.Clocked word at opens events closes body) ≡ read_item (Item-F.Clocked word at opens events closes body)
unfolding item_read
item-Clocked word at opens events closes body = ap item_read (sym (item.rolls-Clocked word at opens events closes body)) ∙ fold-roll-Item BodyRead BodyRead Read read_gen_block read_item read_item_branch (Item-F.Clocked word at opens events closes body)

pub item-Genvars : (word : Token) (names : CommaList Token) (semicolon : Token) → item_read (item.Genvars word names semicolon) ≡ read_item (Item-F.Genvars word names semicolon)
unfolding item_read
item-Genvars word names semicolon = ap item_read (sym (item.rolls-Genvars word names semicolon)) ∙ fold-roll-Item BodyRead BodyRead Read read_gen_block read_item read_item_branch (Item-F.Genvars word names semicolon)

pub item-Generate : (word : Token) (items : List Item) (end : Token) → item_read (item.Generate word items end) ≡ read_item (Item-F.Generate word (map item_read items) end)
unfolding item_read
item-Generate word items end = ap item_read (sym (item.rolls-Generate word items end)) ∙ fold-roll-Item BodyRead BodyRead Read read_gen_block read_item read_item_branch (Item-F.Generate word items end)

pub item-For : (head : LoopHead) (body : GenBlock) → item_read (item.For head body) ≡ read_item (Item-F.For head (gen_block_read body))
unfolding item_read gen_block_read
item-For head body = ap item_read (sym (item.rolls-For head body)) ∙ fold-roll-Item BodyRead BodyRead Read read_gen_block read_item read_item_branch (Item-F.For head body)

pub item-If : (branches : List ItemBranch) (test : Test) (body : GenBlock) → item_read (item.If branches test body) ≡ read_item (Item-F.If (map item_branch_read branches) test (gen_block_read body))
unfolding item_read gen_block_read item_branch_read
item-If branches test body = ap item_read (sym (item.rolls-If branches test body)) ∙ fold-roll-Item BodyRead BodyRead Read read_gen_block read_item read_item_branch (Item-F.If branches test body)

pub item-IfElse : (branches : List ItemBranch) (last : GenBlock) → item_read (item.IfElse branches last) ≡ read_item (Item-F.IfElse (map item_branch_read branches) (gen_block_read last))
unfolding item_read gen_block_read item_branch_read
item-IfElse branches last = ap item_read (sym (item.rolls-IfElse branches last)) ∙ fold-roll-Item BodyRead BodyRead Read read_gen_block read_item read_item_branch (Item-F.IfElse branches last)

pub item-Instance : (child : Token) (overrides : Option Overrides) (name opens : Token) (ports : Connections) (closes semicolon : Token) → item_read (item.Instance child overrides name opens ports closes semicolon) ≡ read_item (Item-F.Instance child overrides name opens ports closes semicolon)
unfolding item_read
item-Instance child overrides name opens ports closes semicolon = ap item_read (sym (item.rolls-Instance child overrides name opens ports closes semicolon)) ∙ fold-roll-Item BodyRead BodyRead Read read_gen_block read_item read_item_branch (Item-F.Instance child overrides name opens ports closes semicolon)

pub gen_block-Item : (x : Item) → gen_block_read (gen_block.Item x) ≡ read_gen_block (GenBlock-F.Item (item_read x))
unfolding gen_block_read item_read
gen_block-Item x = ap gen_block_read (sym (gen_block.rolls-Item x)) ∙ fold-roll-GenBlock BodyRead BodyRead Read read_gen_block read_item read_item_branch (GenBlock-F.Item x)

pub gen_block-Block : (begin : Token) (name : Option Label) (items : List Item) (end : Token) (end_name : Option Label) → gen_block_read (gen_block.Block begin name items end end_name) ≡ read_gen_block (GenBlock-F.Block begin name (map item_read items) end end_name)
unfolding gen_block_read item_read
gen_block-Block begin name items end end_name = ap gen_block_read (sym (gen_block.rolls-Block begin name items end end_name)) ∙ fold-roll-GenBlock BodyRead BodyRead Read read_gen_block read_item read_item_branch (GenBlock-F.Block begin name items end end_name)

pub item_branch-roll : (test : Test) (body : GenBlock) (else_word : Token)
    → item_branch_read (roll-ItemBranch (record { test = test; body = body; else_word = else_word })) ≡ read_item_branch (record { test = test; body = gen_block_read body; else_word = else_word })
unfolding item_branch_read gen_block_read
item_branch-roll test body else_word = fold-roll-ItemBranch BodyRead BodyRead Read read_gen_block read_item read_item_branch (record { test = test; body = body; else_word = else_word })
