-- What every layer keeps holds of what each item reads as.
use Rattle.std.proofs.Common.{◌≡◌, List, [], ◌∷◌, map, sym, subst}
use denote.Hole.Holds.{Such}
use Rattle.sv_tree.specs.declared.tree.item.GenBlock.{GenBlock}
use Rattle.sv_tree.specs.declared.tree.item.Item.{Item}
use Rattle.sv_tree.specs.declared.tree.item.ItemBranch.{ItemBranch}
use Rattle.sv_tree.specs.declared.tree.item.GenBlock.TheBlock.{the_family, member-GenBlock, member-Item, member-ItemBranch}
use Rattle.sv_tree.specs.declared.tree.item.GenBlock.TheFolds.{claims, ind-GenBlock, map-GenBlock, fold-roll-GenBlock, ind-Item, map-Item, fold-roll-Item, ind-ItemBranch, map-ItemBranch, fold-roll-ItemBranch}
use Rattle.sv_tree.specs.declared.tree.item.GenBlock.TheOpen.{GenBlock-F, Item-F, ItemBranch-F}
use Rattle.sv_tree.specs.declared.tree.item.GenBlock.TheViews.{roll-GenBlock, roll-Item, roll-ItemBranch}
use Rattle.sv_tree.specs.TreeRead.{Read, Each}
use Rattle.sv_tree.specs.TreeStmt.{BodyRead}
use Rattle.sv_tree.specs.TreeItem.{read_gen_block, read_item, read_item_branch, gen_block_read, item_read, item_branch_read}

module _ (PG : BodyRead → Type 0) (PI : BodyRead → Type 0) (PB : Read → Type 0) where
  -- what is known of the parts of an item or a block of items
  abbrev pub GenBlockParts : GenBlock-F BodyRead BodyRead Read → Type 0
  GenBlockParts (GenBlock-F.Item x) = PI x
  GenBlockParts (GenBlock-F.Block begin name items end end_name) = Each PI items

  -- what is known of the parts of an item
  abbrev pub ItemParts : Item-F BodyRead BodyRead Read → Type 0
  ItemParts (Item-F.Empty t) = Unit {0}
  ItemParts (Item-F.Import x) = Unit {0}
  ItemParts (Item-F.Parameters word kind settings semicolon) = Unit {0}
  ItemParts (Item-F.Variables kind declarations semicolon) = Unit {0}
  ItemParts (Item-F.Assigns word assignments semicolon) = Unit {0}
  ItemParts (Item-F.Comb word body) = Unit {0}
  ItemParts (Item-F.Star word at star body) = Unit {0}
  ItemParts (Item-F.ParenStar word at opens star closes body) = Unit {0}
  ItemParts (Item-F.Clocked word at opens events closes body) = Unit {0}
  ItemParts (Item-F.Genvars word names semicolon) = Unit {0}
  ItemParts (Item-F.Generate word items end) = Each PI items
  ItemParts (Item-F.For head body) = PG body
  ItemParts (Item-F.If branches test body) = Each PB branches × PG body
  ItemParts (Item-F.IfElse branches last) = Each PB branches × PG last
  ItemParts (Item-F.Instance child overrides name opens ports closes semicolon) = Unit {0}

  -- what is known of the parts of a branch
  abbrev pub ItemBranchParts : ItemBranch-F BodyRead BodyRead Read → Type 0
  ItemBranchParts x = PG x.body

  module _
      (gen_block_kept : (x : GenBlock-F BodyRead BodyRead Read) → GenBlockParts x → PG (read_gen_block x))
      (item_kept : (x : Item-F BodyRead BodyRead Read) → ItemParts x → PI (read_item x))
      (item_branch_kept : (x : ItemBranch-F BodyRead BodyRead Read) → ItemBranchParts x → PB (read_item_branch x))
    where
      abbrev GenBlockKeeps : GenBlock → Type 0
      GenBlockKeeps x = PG (gen_block_read x)

      abbrev ItemKeeps : Item → Type 0
      ItemKeeps x = PI (item_read x)

      abbrev ItemBranchKeeps : ItemBranch → Type 0
      ItemBranchKeeps x = PB (item_branch_read x)

      abbrev KeptGenBlock : Type 0
      KeptGenBlock = Such the_family (claims GenBlockKeeps ItemKeeps ItemBranchKeeps) member-GenBlock

      abbrev KeptItem : Type 0
      KeptItem = Such the_family (claims GenBlockKeeps ItemKeeps ItemBranchKeeps) member-Item

      abbrev KeptItemBranch : Type 0
      KeptItemBranch = Such the_family (claims GenBlockKeeps ItemKeeps ItemBranchKeeps) member-ItemBranch

      each_item : (xs : List KeptItem) → Each PI (map item_read (map (λ x. x.0) xs))
      each_item [] = tt
      each_item (x ∷ xs) = (x.1, each_item xs)

      each_item_branch : (xs : List KeptItemBranch) → Each PB (map item_branch_read (map (λ x. x.0) xs))
      each_item_branch [] = tt
      each_item_branch (x ∷ xs) = (x.1, each_item_branch xs)

      gen_block_rolled : (x : GenBlock-F GenBlock Item ItemBranch) → gen_block_read (roll-GenBlock x) ≡ read_gen_block (map-GenBlock GenBlock Item ItemBranch BodyRead BodyRead Read gen_block_read item_read item_branch_read x)
      unfolding gen_block_read item_read item_branch_read
      gen_block_rolled = fold-roll-GenBlock BodyRead BodyRead Read read_gen_block read_item read_item_branch

      item_rolled : (x : Item-F GenBlock Item ItemBranch) → item_read (roll-Item x) ≡ read_item (map-Item GenBlock Item ItemBranch BodyRead BodyRead Read gen_block_read item_read item_branch_read x)
      unfolding gen_block_read item_read item_branch_read
      item_rolled = fold-roll-Item BodyRead BodyRead Read read_gen_block read_item read_item_branch

      item_branch_rolled : (x : ItemBranch-F GenBlock Item ItemBranch) → item_branch_read (roll-ItemBranch x) ≡ read_item_branch (map-ItemBranch GenBlock Item ItemBranch BodyRead BodyRead Read gen_block_read item_read item_branch_read x)
      unfolding gen_block_read item_read item_branch_read
      item_branch_rolled = fold-roll-ItemBranch BodyRead BodyRead Read read_gen_block read_item read_item_branch

      gen_block_case : (x : GenBlock-F KeptGenBlock KeptItem KeptItemBranch) → GenBlockKeeps (roll-GenBlock (map-GenBlock KeptGenBlock KeptItem KeptItemBranch GenBlock Item ItemBranch (λ x. x.0) (λ x. x.0) (λ x. x.0) x))
      gen_block_case (GenBlock-F.Item x) = subst PG (sym (gen_block_rolled (GenBlock-F.Item x.0))) (gen_block_kept (GenBlock-F.Item (item_read x.0)) x.1)
      gen_block_case (GenBlock-F.Block begin name items end end_name) = subst PG (sym (gen_block_rolled (GenBlock-F.Block begin name (map (λ x. x.0) items) end end_name))) (gen_block_kept (GenBlock-F.Block begin name (map item_read (map (λ x. x.0) items)) end end_name) (each_item items))

      item_case : (x : Item-F KeptGenBlock KeptItem KeptItemBranch) → ItemKeeps (roll-Item (map-Item KeptGenBlock KeptItem KeptItemBranch GenBlock Item ItemBranch (λ x. x.0) (λ x. x.0) (λ x. x.0) x))
      item_case (Item-F.Empty t) = subst PI (sym (item_rolled (Item-F.Empty t))) (item_kept (Item-F.Empty t) tt)
      item_case (Item-F.Import x) = subst PI (sym (item_rolled (Item-F.Import x))) (item_kept (Item-F.Import x) tt)
      item_case (Item-F.Parameters word kind settings semicolon) = subst PI (sym (item_rolled (Item-F.Parameters word kind settings semicolon))) (item_kept (Item-F.Parameters word kind settings semicolon) tt)
      item_case (Item-F.Variables kind declarations semicolon) = subst PI (sym (item_rolled (Item-F.Variables kind declarations semicolon))) (item_kept (Item-F.Variables kind declarations semicolon) tt)
      item_case (Item-F.Assigns word assignments semicolon) = subst PI (sym (item_rolled (Item-F.Assigns word assignments semicolon))) (item_kept (Item-F.Assigns word assignments semicolon) tt)
      item_case (Item-F.Comb word body) = subst PI (sym (item_rolled (Item-F.Comb word body))) (item_kept (Item-F.Comb word body) tt)
      item_case (Item-F.Star word at star body) = subst PI (sym (item_rolled (Item-F.Star word at star body))) (item_kept (Item-F.Star word at star body) tt)
      item_case (Item-F.ParenStar word at opens star closes body) = subst PI (sym (item_rolled (Item-F.ParenStar word at opens star closes body))) (item_kept (Item-F.ParenStar word at opens star closes body) tt)
      item_case (Item-F.Clocked word at opens events closes body) = subst PI (sym (item_rolled (Item-F.Clocked word at opens events closes body))) (item_kept (Item-F.Clocked word at opens events closes body) tt)
      item_case (Item-F.Genvars word names semicolon) = subst PI (sym (item_rolled (Item-F.Genvars word names semicolon))) (item_kept (Item-F.Genvars word names semicolon) tt)
      item_case (Item-F.Generate word items end) = subst PI (sym (item_rolled (Item-F.Generate word (map (λ x. x.0) items) end))) (item_kept (Item-F.Generate word (map item_read (map (λ x. x.0) items)) end) (each_item items))
      item_case (Item-F.For head body) = subst PI (sym (item_rolled (Item-F.For head body.0))) (item_kept (Item-F.For head (gen_block_read body.0)) body.1)
      item_case (Item-F.If branches test body) = subst PI (sym (item_rolled (Item-F.If (map (λ x. x.0) branches) test body.0))) (item_kept (Item-F.If (map item_branch_read (map (λ x. x.0) branches)) test (gen_block_read body.0)) (each_item_branch branches, body.1))
      item_case (Item-F.IfElse branches last) = subst PI (sym (item_rolled (Item-F.IfElse (map (λ x. x.0) branches) last.0))) (item_kept (Item-F.IfElse (map item_branch_read (map (λ x. x.0) branches)) (gen_block_read last.0)) (each_item_branch branches, last.1))
      item_case (Item-F.Instance child overrides name opens ports closes semicolon) = subst PI (sym (item_rolled (Item-F.Instance child overrides name opens ports closes semicolon))) (item_kept (Item-F.Instance child overrides name opens ports closes semicolon) tt)

      item_branch_case : (x : ItemBranch-F KeptGenBlock KeptItem KeptItemBranch) → ItemBranchKeeps (roll-ItemBranch (map-ItemBranch KeptGenBlock KeptItem KeptItemBranch GenBlock Item ItemBranch (λ x. x.0) (λ x. x.0) (λ x. x.0) x))
      item_branch_case x = subst PB (sym (item_branch_rolled (record { test = x.test; body = x.body.0; else_word = x.else_word }))) (item_branch_kept (record { test = x.test; body = (gen_block_read x.body.0); else_word = x.else_word }) x.body.1)

      pub gen_block_keeps : (x : GenBlock) → PG (gen_block_read x)
      gen_block_keeps = ind-GenBlock GenBlockKeeps ItemKeeps ItemBranchKeeps
          (λ x y is. subst (λ x. GenBlockKeeps (roll-GenBlock x)) is (gen_block_case y))
          (λ x y is. subst (λ x. ItemKeeps (roll-Item x)) is (item_case y))
          (λ x y is. subst (λ x. ItemBranchKeeps (roll-ItemBranch x)) is (item_branch_case y))

      pub item_keeps : (x : Item) → PI (item_read x)
      item_keeps = ind-Item GenBlockKeeps ItemKeeps ItemBranchKeeps
          (λ x y is. subst (λ x. GenBlockKeeps (roll-GenBlock x)) is (gen_block_case y))
          (λ x y is. subst (λ x. ItemKeeps (roll-Item x)) is (item_case y))
          (λ x y is. subst (λ x. ItemBranchKeeps (roll-ItemBranch x)) is (item_branch_case y))

      pub item_branch_keeps : (x : ItemBranch) → PB (item_branch_read x)
      item_branch_keeps = ind-ItemBranch GenBlockKeeps ItemKeeps ItemBranchKeeps
          (λ x y is. subst (λ x. GenBlockKeeps (roll-GenBlock x)) is (gen_block_case y))
          (λ x y is. subst (λ x. ItemKeeps (roll-Item x)) is (item_case y))
          (λ x y is. subst (λ x. ItemBranchKeeps (roll-ItemBranch x)) is (item_branch_case y))
