-- The imports of a source, those among the items of modules too, as the functions that a design calls (IEEE 1800-2017 35.5.4).
use Rattle.std.specs.Prelude.{◌≡◌, ℕ, Bool, true, false, List, [], ◌∷◌, ◌++◌, map, get_or, Option, Some, None}
use Rattle.std.specs.List.{flat_map}
use Rattle.sv_tree.specs.declared.symbol.Symbol.{Symbol}
use Rattle.sv_tree.specs.declared.symbol.Symbol.TheVariants as sym
use Rattle.sv_tree.specs.declared.token.Token.{Token}
use Rattle.sv_tree.specs.declared.tree.item.Argument.{Argument}
use Rattle.sv_tree.specs.declared.tree.item.GenBlock.{GenBlock}
use Rattle.sv_tree.specs.declared.tree.item.GenBlock.TheFolds as items
use Rattle.sv_tree.specs.declared.tree.item.GenBlock.TheOpen.{GenBlock-F, Item-F, ItemBranch-F}
use Rattle.sv_tree.specs.declared.tree.item.Import.{Import}
use Rattle.sv_tree.specs.declared.tree.item.Item.{Item}
use Rattle.sv_tree.specs.declared.tree.item.ItemBranch.{ItemBranch}
use Rattle.sv_tree.specs.declared.tree.item.Linkage.{Linkage}
use Rattle.sv_tree.specs.declared.tree.list.CommaList.{CommaList}
use Rattle.sv_tree.specs.declared.tree.source.Description.{Description}
use Rattle.sv_tree.specs.declared.tree.source.Description.TheVariants as description
use Rattle.sv_tree.specs.declared.tree.source.SourceTree.{SourceTree}
use Rattle.sv_tree.specs.Spelling.{symbol_of}
use Rattle.elab_types.specs.Word.{word_kind, result_kind}
use Rattle.vs_base.specs.declared.origin.Origin.{Origin}
use Rattle.vs_base.specs.declared.types.ValueType.{ValueType}
use Rattle.rtl_ir.specs.declared.design.Import.{Import as FlatImport}

-- ---- where they stand, in token order

-- one list after another
abbrev pub joined : List (List Import) → List Import
joined [] = []
joined (part ∷ more) = part ++ joined more

abbrev pub item_layer : Item-F (List Import) (List Import) (List Import) → List Import
item_layer (Item-F.Import x) = x ∷ []
item_layer (Item-F.Generate word parts end) = joined parts
item_layer (Item-F.For head body) = body
item_layer (Item-F.If branches test body) = joined branches ++ body
item_layer (Item-F.IfElse branches last) = joined branches ++ last
item_layer _ = []

abbrev pub block_layer : GenBlock-F (List Import) (List Import) (List Import) → List Import
block_layer (GenBlock-F.Item x) = x
block_layer (GenBlock-F.Block begin label parts end end_label) = joined parts

abbrev pub branch_layer : ItemBranch-F (List Import) (List Import) (List Import) → List Import
branch_layer x = x.body

unfoldable pub block_imports : GenBlock → List Import
block_imports = items.fold-GenBlock (List Import) (List Import) (List Import) block_layer item_layer branch_layer

unfoldable pub item_imports : Item → List Import
item_imports = items.fold-Item (List Import) (List Import) (List Import) block_layer item_layer branch_layer

unfoldable pub branch_imports : ItemBranch → List Import
branch_imports = items.fold-ItemBranch (List Import) (List Import) (List Import) block_layer item_layer branch_layer

abbrev pub description_imports : Description → List Import
description_imports (description.Import x) = x ∷ []
description_imports (description.Module m) = flat_map item_imports m.items

-- all imports of a source
abbrev pub imports_of : SourceTree → List Import
imports_of tree = flat_map description_imports tree.descriptions

-- ---- what each is in the design

-- the name under which it is found: its own unless another one stands there
abbrev pub linkage_name : Option Linkage → Token → Token
linkage_name None own = own
linkage_name (Some linkage) own = linkage.name

abbrev pub says_pure : Symbol → Bool
says_pure sym.Pure = true
says_pure _ = false

abbrev pub is_pure : List (List ℕ) → Option Token → Bool
is_pure texts None = false
is_pure texts (Some manner) = says_pure (symbol_of texts manner)

-- the types of its arguments
abbrev pub listed_kinds : List (List ℕ) → CommaList Argument → List ValueType
listed_kinds texts list = word_kind texts list.first.kind ∷ map (λ j. word_kind texts j.item.kind) list.more

abbrev pub arg_kinds : List (List ℕ) → Option (CommaList Argument) → List ValueType
arg_kinds texts None = []
arg_kinds texts (Some list) = listed_kinds texts list

-- what a design tells of an import
pub record Told : Type 0 where
  pub name : List ℕ
  pub declared_pure : Bool
  pub args : List ValueType
  pub result : Option ValueType
  pub at : Origin

abbrev pub told : FlatImport → Told
told x = record { name = x.name; declared_pure = x.declared_pure; args = x.args; result = x.result; at = x.at }

abbrev pub told_of : List (List ℕ) → Import → Told
told_of texts x = record {
  name = get_or texts (linkage_name x.linkage x.name).name.0 [];
  declared_pure = is_pure texts x.manner;
  args = arg_kinds texts x.args;
  result = result_kind texts x.result;
  at = x.name.at;
}

-- these are the imports of a source, in order
abbrev pub AreImports : List (List ℕ) → SourceTree → List FlatImport → Type 0
AreImports texts tree all = map told all ≡ map (told_of texts) (imports_of tree)
