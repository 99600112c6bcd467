-- What is parsed as an item in which items stand: a rule for each form of the grammar, from its parts to the whole.
use Rattle.std.proofs.Common.{◌≡◌, ◌≤◌, ◌<◌, ◌+◌, ℕ, true, false, List, [], ◌∷◌, map, refl, sym, ap, ◌∙◌, subst, arith}
use Rattle.sv_tree.specs.declared.symbol.Symbol.TheVariants as symbol
use Rattle.sv_tree.specs.declared.token.Token.{Token}
use Rattle.sv_tree.specs.declared.tree.item.GenBlock.{GenBlock}
use Rattle.sv_tree.specs.declared.tree.item.GenBlock.TheVariants as gen_block
use Rattle.sv_tree.specs.declared.tree.item.Item.{Item}
use Rattle.sv_tree.specs.declared.tree.item.Item.TheVariants as item
use Rattle.sv_tree.specs.declared.tree.item.ItemBranch.{ItemBranch, roll-ItemBranch}
use Rattle.sv_tree.specs.declared.tree.stmt.LoopHead.{LoopHead}
use Rattle.sv_tree.specs.declared.tree.stmt.Test.{Test}
use Rattle.sv_tree.specs.Symbol.{same}
use Rattle.sv_tree.specs.TreeExpr.{is_empty}
use Rattle.sv_tree.specs.TreeRead.{all_of}
use Rattle.sv_tree.specs.TreeStmt.{test, texts}
use Rattle.sv_tree.specs.TreeItem.{item_loop, item_read, gen_block_read, item_branch_read}
use Rattle.sv_tree.specs.TreeItemLaws.{item-Generate, item-For, item-If, item-IfElse, gen_block-Item, gen_block-Block, item_branch-roll}
use Rattle.parse_expr.specs.Input.{Input, symbol_at, TakesThe, IsAnother}
use Rattle.parse_expr.specs.Parsed.{Parsed}
use Rattle.parse_expr.specs.ParsedLaws.{token_at, ◌and◌, deep, by}
use Rattle.parse_stmt.specs.Body.{ParsedBody, ParsedInside}
use Rattle.parse_stmt.specs.BodyLaws.{takes_forward, first_is_not, takes_not, another_not, plain_body, ending_body, body_by, block_body, branch_parsed, chain_body, chain_else_body}
use Rattle.parse_stmt.specs.Heads.{named_word}
use Rattle.parse_stmt.specs.declared.edges.NamedWord.{NamedWord}

some_item_branches : (x : Input) {a b : ℕ} (branches : List ItemBranch) → (is_empty branches ≡ true → b ≡ a) → same symbol.If (symbol_at x a) ≡ true → same symbol.If (symbol_at x b) ≡ false
    → is_empty (map item_branch_read branches) ≡ false
some_item_branches x [] begun first last = let h = begun refl in cc (ap (λ n. same symbol.If (symbol_at x n)) h)
some_item_branches x (y ∷ ys) begun first last = refl

module _ {x : Input} {e : ℕ} where
  pub generate_item : {a b c f : ℕ} {word end : Token} (parts : List Item) → e ≤ 128 → TakesThe x symbol.Generate a b word → Parsed x e b c (texts (map item_read parts))
      → TakesThe x symbol.Endgenerate c f end → ParsedInside x e a f (item_read (item.Generate word parts end))
  generate_item {word = word} {end} parts shallow h k l = λ d is.
      body_by (item-Generate word parts end)
      (plain_body (deep is (token_at shallow h and k and token_at shallow l)) (omega (arith, takes_forward h.takes, k.forward, l.takes.forward)) (takes_not h symbol.If refl))

  pub for_item : {a b c : ℕ} (head : LoopHead) (body : GenBlock) → Parsed x e a b (item_loop head) → ParsedBody x e b c (gen_block_read body)
      → ParsedInside x e a c (item_read (item.For head body))
  for_item head body h k = λ d is.
      body_by (item-For head body)
      (ending_body (gen_block_read body) (deep is (h and k.text)) (omega (arith, h.forward, k.forward)) (first_is_not symbol.For head.word _ h symbol.If refl) k.ends)

  pub branch_item : {a b c f : ℕ} (t : Test) (body : GenBlock) {w : Token} → e ≤ 128 → Parsed x e a b (test t) → ParsedBody x e b c (gen_block_read body)
      → TakesThe x symbol.Else c f w → Parsed x e a f (item_branch_read (roll-ItemBranch (record { test = t; body = body; else_word = w })))
  branch_item t body {w} shallow h k l = by (item_branch-roll t body w) (branch_parsed t shallow h k l)

  pub if_item : {a b c f g : ℕ} (branches : List ItemBranch) (t : Test) (body : GenBlock) (i : Item) → i ≡ item.If branches t body
      → Parsed x e a b (all_of (map item_branch_read branches)) → Parsed x e b c (test t) → ParsedBody x e c f (gen_block_read body)
      → same symbol.If (symbol_at x a) ≡ true → (g ≡ f) × IsAnother x symbol.Else f
      → ParsedInside x e a g (item_read i)
  if_item {a} {b} {c} {f} {g} branches t body i made h k l first last = λ d is.
      let whole : ParsedBody x d a f (item_read i) =
      body_by (ap item_read made ∙ item-If branches t body) (chain_body (map item_branch_read branches) t is h k l first (another_not x symbol.Else f refl last.1)) in
      subst (λ n. ParsedBody x d a n (item_read i)) (sym last.0) whole

  pub if_else_item : {a b c : ℕ} (branches : List ItemBranch) (body : GenBlock) (i : Item) → i ≡ item.IfElse branches body
      → Parsed x e a b (all_of (map item_branch_read branches)) → ParsedBody x e b c (gen_block_read body)
      → (is_empty branches ≡ true → b ≡ a) → same symbol.If (symbol_at x a) ≡ true → same symbol.If (symbol_at x b) ≡ false
      → ParsedInside x e a c (item_read i)
  if_else_item branches body i made h k begun first last = λ d is.
      body_by (ap item_read made ∙ item-IfElse branches body) (chain_else_body (map item_branch_read branches) is h k (some_item_branches x branches begun first last) first last)

  pub item_block : {a b : ℕ} (i : Item) → ParsedBody x e a b (item_read i) → ParsedBody x e a b (gen_block_read (gen_block.Item i))
  item_block i h = body_by (gen_block-Item i) h

  pub items_block : {d a b c f : ℕ} (opens : NamedWord) (parts : List Item) (closes : NamedWord) → e ≡ d + 1
      → Parsed x e a b (named_word symbol.Begin opens) → a < b → Parsed x e b c (texts (map item_read parts)) → Parsed x e c f (named_word symbol.End closes)
      → ParsedBody x d a f (gen_block_read (gen_block.Block opens.word opens.label parts closes.word closes.label))
  items_block opens parts closes is h forward k l =
      body_by (gen_block-Block opens.word opens.label parts closes.word closes.label)
      (block_body opens (map item_read parts) closes is h k l (omega (arith, forward, k.forward, l.forward)))
