-- The block of a generate `if` that is taken (IEEE 1800-2017 27.5).
use Rattle.std.specs.Prelude.{◌≡◌, Bool, true, false, List, [], ◌∷◌, ◌++◌, map, Option, Some, None, Result, Ok, Err}
use Rattle.std.specs.Borrow.{Bor}
use Rattle.std.specs.Option.{option_copied}
use Rattle.sv_tree.specs.declared.tree.expr.Expr.{Expr}
use Rattle.sv_tree.specs.declared.tree.item.GenBlock.{GenBlock, out-GenBlock}
use Rattle.sv_tree.specs.declared.tree.item.GenBlock.TheOpen.{GenBlock-F, Item-F}
use Rattle.sv_tree.specs.declared.tree.item.Item.{Item, out-Item}
use Rattle.sv_tree.specs.declared.tree.item.ItemBranch.{ItemBranch}
use Rattle.sv_expr.specs.declared.fault.WalkFault.{WalkFault}
use Rattle.sv_expr.specs.Environment.{Environment}
use Rattle.sv_expr.specs.Meaning.{FirstFault}
use Rattle.elab_types.specs.Turns.{holds}

-- a test, and the block that it guards
pub record Guarded : Type 0 where
  pub test : Expr
  pub block : GenBlock

abbrev pub branch : ItemBranch → Guarded
branch b = record { test = b.test.test; block = b.body }

abbrev pub Layer : Type 0
Layer = Item-F GenBlock Item ItemBranch

-- the tests of an `if` in order
abbrev pub tests_in : Layer → List Guarded
tests_in (Item-F.If branches test body) = map branch branches ++ record { test = test.test; block = body } ∷ []
tests_in (Item-F.IfElse branches last) = map branch branches
tests_in _ = []

-- the block after the last `else`, where there is one
abbrev pub last_in : Layer → Option GenBlock
last_in (Item-F.IfElse branches last) = Some last
last_in _ = None

-- the item that a block without `begin` is, where it is an `if`
abbrev pub if_of : Item → Layer → Option Item
if_of i (Item-F.If branches test body) = Some i
if_of i (Item-F.IfElse branches last) = Some i
if_of i _ = None

abbrev pub if_in : GenBlock-F GenBlock Item ItemBranch → Option Item
if_in (GenBlock-F.Item i) = if_of i (out-Item i)
if_in (GenBlock-F.Block begin label items end end_label) = None

-- a block, no block, or the first fault
abbrev pub Decision : Type 0
Decision = Result (Option GenBlock) WalkFault

-- what a test decides before those after it
abbrev pub by_test : Option WalkFault → Bool → GenBlock → Decision → Decision
by_test (Some fault) is block later = Err fault
by_test None true block later = Ok (Some block)
by_test None false block later = later

module _ (env : Environment) where
  -- the first test that holds or has a fault decides
  abbrev pub decided : List Guarded → Option GenBlock → Decision
  decided [] last = Ok last
  decided (x ∷ more) last = by_test (FirstFault env x.test) (holds env x.test) x.block (decided more last)

  abbrev pub decided_in : Item → Decision
  decided_in i = decided (tests_in (out-Item i)) (last_in (out-Item i))

  -- where the block is itself one `if` without `begin`, that one decides
  pub data Taken : Decision → Decision → Type 0 where
    Fails : (fault : WalkFault) → Taken (Err fault) (Err fault)
    NoBlock : Taken (Ok None) (Ok None)
    Stays : (block : GenBlock) → if_in (out-GenBlock block) ≡ None → Taken (Ok (Some block)) (Ok (Some block))
    GoesOn : (block : GenBlock) (inner : Item) (d : Decision) → if_in (out-GenBlock block) ≡ Some inner → Taken (decided_in inner) d → Taken (Ok (Some block)) d

-- what a call answers, the block behind its reference
abbrev pub answered : Result (Option (Bor GenBlock)) WalkFault → Decision
answered (Ok block) = Ok (option_copied block)
answered (Err fault) = Err fault
