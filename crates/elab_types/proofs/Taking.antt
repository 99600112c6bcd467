-- What a generate `if` takes by its tests.
use Rattle.std.proofs.Common.{◌≡◌, ◌<◌, ◌⊎◌, inl, inr, ℕ, suc, Bool, false, List, [], ◌∷◌, ◌++◌, length, drop, get_or, map, Option, Some, None, unwrap_or, Ok, Err, refl, sym, ap, ◌∙◌, subst}
use Rattle.std.proofs.Math.Seq.{drop-cons}
use Rattle.std.proofs.lemmas.Option.{none-some}
use Rattle.sv_tree.specs.declared.tree.item.GenBlock.{GenBlock}
use Rattle.sv_tree.specs.declared.tree.item.GenBlock.TheOpen.{GenBlock-F, Item-F}
use Rattle.sv_tree.specs.declared.tree.item.GenBlock.TheVariants as gen_block
use Rattle.sv_tree.specs.declared.tree.item.GenBlock.TheViews.{out-GenBlock, out-Item, out-roll-GenBlock, out-roll-Item, roll-Item, roll-out-Item}
use Rattle.sv_tree.specs.declared.tree.item.Item.{Item}
use Rattle.sv_tree.specs.declared.tree.item.Item.TheVariants as item
use Rattle.sv_tree.specs.declared.tree.item.ItemBranch.{ItemBranch}
use Rattle.sv_tree.specs.declared.tree.stmt.Test.{Test}
use Rattle.sv_tree.specs.declared.tree.words.Label.{Label}
use Rattle.sv_tree.specs.declared.token.Token.{Token}
use Rattle.sv_expr.specs.declared.fault.WalkFault.{WalkFault}
use Rattle.sv_expr.specs.Environment.{Environment}
use Rattle.sv_expr.specs.Meaning.{FirstFault}
use Rattle.elab_types.specs.Turns.{holds}
use Rattle.elab_types.specs.Branch.{Guarded, Layer, Decision, Taken, Fails, NoBlock, Stays, GoesOn, branch, tests_in, last_in, if_of, if_in, by_test, decided, decided_in}

-- ---- the forms of an item

pub if_layer : {i : Item} (branches : List ItemBranch) (test : Test) (body : GenBlock) → i ≡ item.If branches test body → out-Item i ≡ Item-F.If branches test body
if_layer branches test body is = ap out-Item (is ∙ sym (item.rolls-If branches test body)) ∙ out-roll-Item (Item-F.If branches test body)

pub if_else_layer : {i : Item} (branches : List ItemBranch) (last : GenBlock) → i ≡ item.IfElse branches last → out-Item i ≡ Item-F.IfElse branches last
if_else_layer branches last is = ap out-Item (is ∙ sym (item.rolls-IfElse branches last)) ∙ out-roll-Item (Item-F.IfElse branches last)

-- an item of another form
abbrev pub NoIf : Item → Type 0
NoIf i = (branches : List ItemBranch) (test : Test) (body : GenBlock) → i ≡ item.If branches test body → ⊥

abbrev pub NoIfElse : Item → Type 0
NoIfElse i = (branches : List ItemBranch) (last : GenBlock) → i ≡ item.IfElse branches last → ⊥

other_layer : (i : Item) (x : Layer) → roll-Item x ≡ i → NoIf i → NoIfElse i → (if_of i x ≡ None) × (tests_in x ≡ []) × (last_in x ≡ None)
other_layer i (Item-F.If branches test body) is no_if no_else = absurd (no_if branches test body (sym is ∙ item.rolls-If branches test body))
other_layer i (Item-F.IfElse branches last) is no_if no_else = absurd (no_else branches last (sym is ∙ item.rolls-IfElse branches last))
other_layer i _ is no_if no_else = (refl, refl, refl)

-- ---- the forms of a block

item_block : {g : GenBlock} (i : Item) → g ≡ gen_block.Item i → out-GenBlock g ≡ GenBlock-F.Item i
item_block i is = ap out-GenBlock (is ∙ sym (gen_block.rolls-Item i)) ∙ out-roll-GenBlock (GenBlock-F.Item i)

pub other_item : {g : GenBlock} {i j : Item} → g ≡ gen_block.Item i → j ≡ i → NoIf j → NoIfElse j → if_in (out-GenBlock g) ≡ None
other_item {i = i} is same no_if no_else =
    ap if_in (item_block i is)
    ∙ (other_layer i (out-Item i) (roll-out-Item i) (λ branches test body e. no_if branches test body (same ∙ e)) (λ branches last e. no_else branches last (same ∙ e))).0

pub inner_if : {g : GenBlock} {i j : Item} → g ≡ gen_block.Item i → j ≡ i
    → ((branches : List ItemBranch) × (test : Test) × (body : GenBlock) × (j ≡ item.If branches test body)) ⊎ ((branches : List ItemBranch) × (last : GenBlock) × (j ≡ item.IfElse branches last))
    → if_in (out-GenBlock g) ≡ Some i
inner_if {i = i} is same (inl e) = ap if_in (item_block i is) ∙ ap (if_of i) (if_layer e.0 e.1 e.2 (sym same ∙ e.3))
inner_if {i = i} is same (inr e) = ap if_in (item_block i is) ∙ ap (if_of i) (if_else_layer e.0 e.1 (sym same ∙ e.2))

pub whole_block : {g : GenBlock} (begin : Token) (label : Option Label) (items : List Item) (end : Token) (end_label : Option Label)
    → g ≡ gen_block.Block begin label items end end_label → if_in (out-GenBlock g) ≡ None
whole_block begin label items end end_label is =
    ap if_in (ap out-GenBlock (is ∙ sym (gen_block.rolls-Block begin label items end end_label)) ∙ out-roll-GenBlock (GenBlock-F.Block begin label items end end_label))

-- ---- what a test decides

pub not_held : {f : Option WalkFault} {h is : Bool} (block : GenBlock) (later : Decision) → None ≡ f → is ≡ h → is ≡ false → by_test f h block later ≡ later
not_held {h = h} block later clean same so = ap (λ f. by_test f h block later) (sym clean) ∙ ap (λ h. by_test None h block later) (sym same ∙ so)

pub at_fault : {f : Option WalkFault} {fault : WalkFault} (h : Bool) (block : GenBlock) (later : Decision) → Some fault ≡ f → by_test f h block later ≡ Err fault
at_fault h block later is = ap (λ f. by_test f h block later) (sym is)

module _ (env : Environment) where
  pub taken_by : {d e a : Decision} → d ≡ e → Taken env e a → Taken env d a
  taken_by {a = a} is l = subst (λ d. Taken env d a) (sym is) l

  pub decided_if : {i : Item} (branches : List ItemBranch) (test : Test) (body : GenBlock) → i ≡ item.If branches test body
      → decided_in env i ≡ decided env (map branch branches ++ record { test = test.test; block = body } ∷ []) None
  decided_if branches test body is = ap (λ x. decided env (tests_in x) (last_in x)) (if_layer branches test body is)

  pub decided_if_else : {i : Item} (branches : List ItemBranch) (last : GenBlock) → i ≡ item.IfElse branches last → decided_in env i ≡ decided env (map branch branches) (Some last)
  decided_if_else branches last is = ap (λ x. decided env (tests_in x) (last_in x)) (if_else_layer branches last is)

  pub decides_nothing : (i : Item) → NoIf i → NoIfElse i → decided_in env i ≡ Ok None
  decides_nothing i no_if no_else =
      let so = other_layer i (out-Item i) (roll-out-Item i) no_if no_else in
      ap (λ xs. decided env xs (last_in (out-Item i))) so.1 ∙ ap (λ last. decided env [] last) so.2

  -- the branch that is reached decides before those after it
  pub reached : (branches : List ItemBranch) (k : ℕ) (x : ItemBranch) (more : List Guarded) (last : Option GenBlock) → k < length branches → x ≡ get_or branches k x
      → decided env (map branch branches ++ more) last ≡ decided env (map branch (drop k branches) ++ more) last
      → decided env (map branch branches ++ more) last ≡ by_test (FirstFault env x.test.test) (holds env x.test.test) x.body (decided env (map branch (drop (suc k) branches) ++ more) last)
  reached branches k x more last within is so =
      so ∙ ap (λ xs. decided env (map branch xs ++ more) last) (drop-cons branches k x within ∙ ap (λ y. y ∷ drop (suc k) branches) (sym is))

  -- one thing alone is taken
  taken_once : {d a b : Decision} → Taken env d a → Taken env d b → a ≡ b
  taken_once (Fails fault) (Fails _) = refl
  taken_once NoBlock NoBlock = refl
  taken_once (Stays block _) (Stays _ _) = refl
  taken_once (Stays block whole) (GoesOn _ inner d is there) = absurd (none-some inner (sym whole ∙ is))
  taken_once (GoesOn block inner d is there) (Stays _ whole) = absurd (none-some inner (sym whole ∙ is))
  taken_once {b = b} (GoesOn block inner d is there) (GoesOn _ other e so here) =
      taken_once there (subst (λ i. Taken env (decided_in env i) b) (ap (λ o. unwrap_or o inner) (sym so ∙ is)) here)
