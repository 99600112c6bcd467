-- The equations of the imports in an item, one for each form.
use Rattle.std.proofs.Common.{◌≡◌, List, [], ◌∷◌, ◌++◌, map, Option, refl, sym, ap, ◌∙◌}
use Rattle.std.specs.List.{flat_map}
use Rattle.sv_tree.specs.declared.token.Token.{Token}
use Rattle.sv_tree.specs.declared.tree.item.Assignment.{Assignment}
use Rattle.sv_tree.specs.declared.tree.item.Connections.{Connections}
use Rattle.sv_tree.specs.declared.tree.item.Declaration.{Declaration}
use Rattle.sv_tree.specs.declared.tree.item.Event.{Event}
use Rattle.sv_tree.specs.declared.tree.item.GenBlock.{GenBlock}
use Rattle.sv_tree.specs.declared.tree.item.GenBlock.TheFolds.{fold-roll-GenBlock, fold-roll-Item, fold_out-ItemBranch}
use Rattle.sv_tree.specs.declared.tree.item.GenBlock.TheOpen.{GenBlock-F, Item-F}
use Rattle.sv_tree.specs.declared.tree.item.GenBlock.TheVariants as gen_block
use Rattle.sv_tree.specs.declared.tree.item.Import.{Import}
use Rattle.sv_tree.specs.declared.tree.item.Item.{Item}
use Rattle.sv_tree.specs.declared.tree.item.Item.TheVariants as item
use Rattle.sv_tree.specs.declared.tree.item.ItemBranch.{ItemBranch}
use Rattle.sv_tree.specs.declared.tree.item.Overrides.{Overrides}
use Rattle.sv_tree.specs.declared.tree.list.CommaList.{CommaList}
use Rattle.sv_tree.specs.declared.tree.stmt.LoopHead.{LoopHead}
use Rattle.sv_tree.specs.declared.tree.stmt.Stmt.{Stmt}
use Rattle.sv_tree.specs.declared.tree.stmt.Test.{Test}
use Rattle.sv_tree.specs.declared.tree.words.DataType.{DataType}
use Rattle.sv_tree.specs.declared.tree.words.Label.{Label}
use Rattle.sv_tree.specs.declared.tree.words.Setting.{Setting}
use Rattle.rtl_flat.specs.Imports.{joined, item_layer, block_layer, branch_layer, block_imports, item_imports, branch_imports}

joined_map : {X : Type 0} (f : X → List Import) (xs : List X) → joined (map f xs) ≡ flat_map f xs
joined_map f [] = refl
joined_map f (x ∷ more) = ap (λ l. f x ++ l) (joined_map f more)

pub item-Empty : (t : Token) → item_imports (item.Empty t) ≡ []
unfolding item_imports
item-Empty t = ap item_imports (sym (item.rolls-Empty t)) ∙ fold-roll-Item (List Import) (List Import) (List Import) block_layer item_layer branch_layer (Item-F.Empty t)

pub item-Import : (x : Import) → item_imports (item.Import x) ≡ x ∷ []
unfolding item_imports
item-Import x = ap item_imports (sym (item.rolls-Import x)) ∙ fold-roll-Item (List Import) (List Import) (List Import) block_layer item_layer branch_layer (Item-F.Import x)

pub item-Parameters : (word : Token) (kind : Option DataType) (settings : CommaList Setting) (semicolon : Token) → item_imports (item.Parameters word kind settings semicolon) ≡ []
unfolding item_imports
item-Parameters word kind settings semicolon = ap item_imports (sym (item.rolls-Parameters word kind settings semicolon)) ∙ fold-roll-Item (List Import) (List Import) (List Import) block_layer item_layer branch_layer (Item-F.Parameters word kind settings semicolon)

pub item-Variables : (kind : DataType) (declarations : CommaList Declaration) (semicolon : Token) → item_imports (item.Variables kind declarations semicolon) ≡ []
unfolding item_imports
item-Variables kind declarations semicolon = ap item_imports (sym (item.rolls-Variables kind declarations semicolon)) ∙ fold-roll-Item (List Import) (List Import) (List Import) block_layer item_layer branch_layer (Item-F.Variables kind declarations semicolon)

pub item-Assigns : (word : Token) (assignments : CommaList Assignment) (semicolon : Token) → item_imports (item.Assigns word assignments semicolon) ≡ []
unfolding item_imports
item-Assigns word assignments semicolon = ap item_imports (sym (item.rolls-Assigns word assignments semicolon)) ∙ fold-roll-Item (List Import) (List Import) (List Import) block_layer item_layer branch_layer (Item-F.Assigns word assignments semicolon)

pub item-Comb : (word : Token) (body : Stmt) → item_imports (item.Comb word body) ≡ []
unfolding item_imports
item-Comb word body = ap item_imports (sym (item.rolls-Comb word body)) ∙ fold-roll-Item (List Import) (List Import) (List Import) block_layer item_layer branch_layer (Item-F.Comb word body)

pub item-Star : (word at star : Token) (body : Stmt) → item_imports (item.Star word at star body) ≡ []
unfolding item_imports
item-Star word at star body = ap item_imports (sym (item.rolls-Star word at star body)) ∙ fold-roll-Item (List Import) (List Import) (List Import) block_layer item_layer branch_layer (Item-F.Star word at star body)

pub item-ParenStar : (word at opens star closes : Token) (body : Stmt) → item_imports (item.ParenStar word at opens star closes body) ≡ []
unfolding item_imports
item-ParenStar word at opens star closes body = ap item_imports (sym (item.rolls-ParenStar word at opens star closes body)) ∙ fold-roll-Item (List Import) (List Import) (List Import) block_layer item_layer branch_layer (Item-F.ParenStar word at opens star closes body)

pub item-Clocked : (word at opens : Token) (events : CommaList Event) (closes : Token) (body : Stmt) → item_imports (item.Clocked word at opens events closes body) ≡ []
unfolding item_imports
item-Clocked word at opens events closes body = ap item_imports (sym (item.rolls-Clocked word at opens events closes body)) ∙ fold-roll-Item (List Import) (List Import) (List Import) block_layer item_layer branch_layer (Item-F.Clocked word at opens events closes body)

pub item-Genvars : (word : Token) (names : CommaList Token) (semicolon : Token) → item_imports (item.Genvars word names semicolon) ≡ []
unfolding item_imports
item-Genvars word names semicolon = ap item_imports (sym (item.rolls-Genvars word names semicolon)) ∙ fold-roll-Item (List Import) (List Import) (List Import) block_layer item_layer branch_layer (Item-F.Genvars word names semicolon)

pub item-Generate : (word : Token) (items : List Item) (end : Token) → item_imports (item.Generate word items end) ≡ flat_map item_imports items
unfolding item_imports
item-Generate word items end = ap item_imports (sym (item.rolls-Generate word items end)) ∙ fold-roll-Item (List Import) (List Import) (List Import) block_layer item_layer branch_layer (Item-F.Generate word items end) ∙ joined_map item_imports items

pub item-For : (head : LoopHead) (body : GenBlock) → item_imports (item.For head body) ≡ block_imports body
unfolding item_imports block_imports
item-For head body = ap item_imports (sym (item.rolls-For head body)) ∙ fold-roll-Item (List Import) (List Import) (List Import) block_layer item_layer branch_layer (Item-F.For head body)

pub item-If : (branches : List ItemBranch) (test : Test) (body : GenBlock) → item_imports (item.If branches test body) ≡ flat_map branch_imports branches ++ block_imports body
unfolding item_imports block_imports branch_imports
item-If branches test body = ap item_imports (sym (item.rolls-If branches test body)) ∙ fold-roll-Item (List Import) (List Import) (List Import) block_layer item_layer branch_layer (Item-F.If branches test body) ∙ ap (λ l. l ++ block_imports body) (joined_map branch_imports branches)

pub item-IfElse : (branches : List ItemBranch) (last : GenBlock) → item_imports (item.IfElse branches last) ≡ flat_map branch_imports branches ++ block_imports last
unfolding item_imports block_imports branch_imports
item-IfElse branches last = ap item_imports (sym (item.rolls-IfElse branches last)) ∙ fold-roll-Item (List Import) (List Import) (List Import) block_layer item_layer branch_layer (Item-F.IfElse branches last) ∙ ap (λ l. l ++ block_imports last) (joined_map branch_imports branches)

pub item-Instance : (child : Token) (overrides : Option Overrides) (name opens : Token) (ports : Connections) (closes semicolon : Token) → item_imports (item.Instance child overrides name opens ports closes semicolon) ≡ []
unfolding item_imports
item-Instance child overrides name opens ports closes semicolon = ap item_imports (sym (item.rolls-Instance child overrides name opens ports closes semicolon)) ∙ fold-roll-Item (List Import) (List Import) (List Import) block_layer item_layer branch_layer (Item-F.Instance child overrides name opens ports closes semicolon)

pub gen_block-Item : (x : Item) → block_imports (gen_block.Item x) ≡ item_imports x
unfolding block_imports item_imports
gen_block-Item x = ap block_imports (sym (gen_block.rolls-Item x)) ∙ fold-roll-GenBlock (List Import) (List Import) (List Import) block_layer item_layer branch_layer (GenBlock-F.Item x)

pub gen_block-Block : (begin : Token) (name : Option Label) (items : List Item) (end : Token) (end_name : Option Label) → block_imports (gen_block.Block begin name items end end_name) ≡ flat_map item_imports items
unfolding block_imports item_imports
gen_block-Block begin name items end end_name = ap block_imports (sym (gen_block.rolls-Block begin name items end end_name)) ∙ fold-roll-GenBlock (List Import) (List Import) (List Import) block_layer item_layer branch_layer (GenBlock-F.Block begin name items end end_name) ∙ joined_map item_imports items

pub branch_is : (b : ItemBranch) → branch_imports b ≡ block_imports b.body
unfolding branch_imports block_imports
branch_is b = fold_out-ItemBranch (List Import) (List Import) (List Import) block_layer item_layer branch_layer b

pub ruleset laws = (item-Empty, item-Import, item-Parameters, item-Variables, item-Assigns, item-Comb, item-Star, item-ParenStar, item-Clocked, item-Genvars, item-Generate, item-For, item-If, item-IfElse, item-Instance, gen_block-Item, gen_block-Block, branch_is)
