-- The equations of what is noted of an item, one for each form.
use Rattle.std.proofs.Common.{◌≡◌, List, map, Option, sym, ap, ◌∙◌}
use Rattle.sv_tree.specs.declared.token.Token.{Token}
use Rattle.sv_tree.specs.declared.tree.item.Assignment.{Assignment}
use Rattle.sv_tree.specs.declared.tree.item.Connections.{Connections}
use Rattle.sv_tree.specs.declared.tree.item.Declaration.{Declaration}
use Rattle.sv_tree.specs.declared.tree.item.Event.{Event}
use Rattle.sv_tree.specs.declared.tree.item.GenBlock.{GenBlock}
use Rattle.sv_tree.specs.declared.tree.item.GenBlock.TheFolds.{fold-roll-GenBlock, fold-roll-Item, fold-roll-ItemBranch}
use Rattle.sv_tree.specs.declared.tree.item.GenBlock.TheOpen.{GenBlock-F, Item-F}
use Rattle.sv_tree.specs.declared.tree.item.GenBlock.TheVariants as gen_block
use Rattle.sv_tree.specs.declared.tree.item.Import.{Import}
use Rattle.sv_tree.specs.declared.tree.item.Item.{Item}
use Rattle.sv_tree.specs.declared.tree.item.Item.TheVariants as item
use Rattle.sv_tree.specs.declared.tree.item.ItemBranch.{ItemBranch, roll-ItemBranch}
use Rattle.sv_tree.specs.declared.tree.item.Overrides.{Overrides}
use Rattle.sv_tree.specs.declared.tree.list.CommaList.{CommaList}
use Rattle.sv_tree.specs.declared.tree.stmt.LoopHead.{LoopHead}
use Rattle.sv_tree.specs.declared.tree.stmt.Stmt.{Stmt}
use Rattle.sv_tree.specs.declared.tree.stmt.Test.{Test}
use Rattle.sv_tree.specs.declared.tree.words.DataType.{DataType}
use Rattle.sv_tree.specs.declared.tree.words.Label.{Label}
use Rattle.sv_tree.specs.declared.tree.words.Setting.{Setting}
use Rattle.sv_names.specs.Noted.{Texts, Notes, note_block, note_item, note_branch, block_notes, item_notes, branch_notes}

module _ (texts : Texts) where
  pub item-Empty : (t : Token) → item_notes texts (item.Empty t) ≡ note_item texts (Item-F.Empty t)
  unfolding item_notes
  item-Empty t = ap (item_notes texts) (sym (item.rolls-Empty t)) ∙ fold-roll-Item Notes Notes Notes (note_block texts) (note_item texts) (note_branch texts) (Item-F.Empty t)

  pub item-Import : (x : Import) → item_notes texts (item.Import x) ≡ note_item texts (Item-F.Import x)
  unfolding item_notes
  item-Import x = ap (item_notes texts) (sym (item.rolls-Import x)) ∙ fold-roll-Item Notes Notes Notes (note_block texts) (note_item texts) (note_branch texts) (Item-F.Import x)

  pub item-Parameters : (word : Token) (kind : Option DataType) (settings : CommaList Setting) (semicolon : Token) → item_notes texts (item.Parameters word kind settings semicolon) ≡ note_item texts (Item-F.Parameters word kind settings semicolon)
  unfolding item_notes
  item-Parameters word kind settings semicolon = ap (item_notes texts) (sym (item.rolls-Parameters word kind settings semicolon)) ∙ fold-roll-Item Notes Notes Notes (note_block texts) (note_item texts) (note_branch texts) (Item-F.Parameters word kind settings semicolon)

  pub item-Variables : (kind : DataType) (declarations : CommaList Declaration) (semicolon : Token) → item_notes texts (item.Variables kind declarations semicolon) ≡ note_item texts (Item-F.Variables kind declarations semicolon)
  unfolding item_notes
  item-Variables kind declarations semicolon = ap (item_notes texts) (sym (item.rolls-Variables kind declarations semicolon)) ∙ fold-roll-Item Notes Notes Notes (note_block texts) (note_item texts) (note_branch texts) (Item-F.Variables kind declarations semicolon)

  pub item-Assigns : (word : Token) (assignments : CommaList Assignment) (semicolon : Token) → item_notes texts (item.Assigns word assignments semicolon) ≡ note_item texts (Item-F.Assigns word assignments semicolon)
  unfolding item_notes
  item-Assigns word assignments semicolon = ap (item_notes texts) (sym (item.rolls-Assigns word assignments semicolon)) ∙ fold-roll-Item Notes Notes Notes (note_block texts) (note_item texts) (note_branch texts) (Item-F.Assigns word assignments semicolon)

  pub item-Comb : (word : Token) (body : Stmt) → item_notes texts (item.Comb word body) ≡ note_item texts (Item-F.Comb word body)
  unfolding item_notes
  item-Comb word body = ap (item_notes texts) (sym (item.rolls-Comb word body)) ∙ fold-roll-Item Notes Notes Notes (note_block texts) (note_item texts) (note_branch texts) (Item-F.Comb word body)

  pub item-Star : (word at star : Token) (body : Stmt) → item_notes texts (item.Star word at star body) ≡ note_item texts (Item-F.Star word at star body)
  unfolding item_notes
  item-Star word at star body = ap (item_notes texts) (sym (item.rolls-Star word at star body)) ∙ fold-roll-Item Notes Notes Notes (note_block texts) (note_item texts) (note_branch texts) (Item-F.Star word at star body)

  pub item-ParenStar : (word at opens star closes : Token) (body : Stmt) → item_notes texts (item.ParenStar word at opens star closes body) ≡ note_item texts (Item-F.ParenStar word at opens star closes body)
  unfolding item_notes
  item-ParenStar word at opens star closes body = ap (item_notes texts) (sym (item.rolls-ParenStar word at opens star closes body)) ∙ fold-roll-Item Notes Notes Notes (note_block texts) (note_item texts) (note_branch texts) (Item-F.ParenStar word at opens star closes body)

  pub item-Clocked : (word at opens : Token) (events : CommaList Event) (closes : Token) (body : Stmt) → item_notes texts (item.Clocked word at opens events closes body) ≡ note_item texts (Item-F.Clocked word at opens events closes body)
  unfolding item_notes
  item-Clocked word at opens events closes body = ap (item_notes texts) (sym (item.rolls-Clocked word at opens events closes body)) ∙ fold-roll-Item Notes Notes Notes (note_block texts) (note_item texts) (note_branch texts) (Item-F.Clocked word at opens events closes body)

  pub item-Genvars : (word : Token) (names : CommaList Token) (semicolon : Token) → item_notes texts (item.Genvars word names semicolon) ≡ note_item texts (Item-F.Genvars word names semicolon)
  unfolding item_notes
  item-Genvars word names semicolon = ap (item_notes texts) (sym (item.rolls-Genvars word names semicolon)) ∙ fold-roll-Item Notes Notes Notes (note_block texts) (note_item texts) (note_branch texts) (Item-F.Genvars word names semicolon)

  pub item-Generate : (word : Token) (items : List Item) (end : Token) → item_notes texts (item.Generate word items end) ≡ note_item texts (Item-F.Generate word (map (item_notes texts) items) end)
  unfolding item_notes
  item-Generate word items end = ap (item_notes texts) (sym (item.rolls-Generate word items end)) ∙ fold-roll-Item Notes Notes Notes (note_block texts) (note_item texts) (note_branch texts) (Item-F.Generate word items end)

  pub item-For : (head : LoopHead) (body : GenBlock) → item_notes texts (item.For head body) ≡ note_item texts (Item-F.For head (block_notes texts body))
  unfolding item_notes block_notes
  item-For head body = ap (item_notes texts) (sym (item.rolls-For head body)) ∙ fold-roll-Item Notes Notes Notes (note_block texts) (note_item texts) (note_branch texts) (Item-F.For head body)

  pub item-If : (branches : List ItemBranch) (test : Test) (body : GenBlock) → item_notes texts (item.If branches test body) ≡ note_item texts (Item-F.If (map (branch_notes texts) branches) test (block_notes texts body))
  unfolding item_notes block_notes branch_notes
  item-If branches test body = ap (item_notes texts) (sym (item.rolls-If branches test body)) ∙ fold-roll-Item Notes Notes Notes (note_block texts) (note_item texts) (note_branch texts) (Item-F.If branches test body)

  pub item-IfElse : (branches : List ItemBranch) (last : GenBlock) → item_notes texts (item.IfElse branches last) ≡ note_item texts (Item-F.IfElse (map (branch_notes texts) branches) (block_notes texts last))
  unfolding item_notes block_notes branch_notes
  item-IfElse branches last = ap (item_notes texts) (sym (item.rolls-IfElse branches last)) ∙ fold-roll-Item Notes Notes Notes (note_block texts) (note_item texts) (note_branch texts) (Item-F.IfElse branches last)

  pub item-Instance : (child : Token) (overrides : Option Overrides) (name opens : Token) (ports : Connections) (closes semicolon : Token) → item_notes texts (item.Instance child overrides name opens ports closes semicolon) ≡ note_item texts (Item-F.Instance child overrides name opens ports closes semicolon)
  unfolding item_notes
  item-Instance child overrides name opens ports closes semicolon = ap (item_notes texts) (sym (item.rolls-Instance child overrides name opens ports closes semicolon)) ∙ fold-roll-Item Notes Notes Notes (note_block texts) (note_item texts) (note_branch texts) (Item-F.Instance child overrides name opens ports closes semicolon)

  pub gen_block-Item : (x : Item) → block_notes texts (gen_block.Item x) ≡ note_block texts (GenBlock-F.Item (item_notes texts x))
  unfolding block_notes item_notes
  gen_block-Item x = ap (block_notes texts) (sym (gen_block.rolls-Item x)) ∙ fold-roll-GenBlock Notes Notes Notes (note_block texts) (note_item texts) (note_branch texts) (GenBlock-F.Item x)

  pub gen_block-Block : (begin : Token) (name : Option Label) (items : List Item) (end : Token) (end_name : Option Label) → block_notes texts (gen_block.Block begin name items end end_name) ≡ note_block texts (GenBlock-F.Block begin name (map (item_notes texts) items) end end_name)
  unfolding block_notes item_notes
  gen_block-Block begin name items end end_name = ap (block_notes texts) (sym (gen_block.rolls-Block begin name items end end_name)) ∙ fold-roll-GenBlock Notes Notes Notes (note_block texts) (note_item texts) (note_branch texts) (GenBlock-F.Block begin name items end end_name)

  pub item_branch-roll : (test : Test) (body : GenBlock) (else_word : Token)
      → branch_notes texts (roll-ItemBranch (record { test = test; body = body; else_word = else_word })) ≡ note_branch texts (record { test = test; body = block_notes texts body; else_word = else_word })
  unfolding branch_notes block_notes
  item_branch-roll test body else_word = fold-roll-ItemBranch Notes Notes Notes (note_block texts) (note_item texts) (note_branch texts) (record { test = test; body = body; else_word = else_word })
