-- What a walk over the items of all modules notes: which modules are instantiated, the first import that is none of this
-- subset, and the first `case` with a second `default`.
use Rattle.std.specs.Prelude.{◌≡◌, ℕ, Bool, not, ◌&&◌, List, [], ◌∷◌, ◌++◌, map, get_or, slice_get, codes, if◌then◌else◌, Option, None, Some}
use Rattle.std.specs.Option.{option_map}
use Rattle.std.specs.Str.{bytes_eq}
use Rattle.vs_base.specs.declared.origin.Origin.{Origin}
use Rattle.sv_tree.specs.declared.token.Token.{Token}
use Rattle.sv_tree.specs.declared.tree.item.Argument.{Argument}
use Rattle.sv_tree.specs.declared.tree.item.GenBlock.{GenBlock}
use Rattle.sv_tree.specs.declared.tree.item.GenBlock.TheFolds as items
use Rattle.sv_tree.specs.declared.tree.item.GenBlock.TheOpen.{GenBlock-F, Item-F, ItemBranch-F}
use Rattle.sv_tree.specs.declared.tree.item.Import.{Import}
use Rattle.sv_tree.specs.declared.tree.item.Item.{Item}
use Rattle.sv_tree.specs.declared.tree.item.ItemBranch.{ItemBranch}
use Rattle.sv_tree.specs.declared.tree.list.CommaList.{CommaList}
use Rattle.sv_tree.specs.declared.tree.source.Description.{Description}
use Rattle.sv_tree.specs.declared.tree.source.Description.TheVariants as description
use Rattle.sv_tree.specs.declared.tree.source.SourceTree.{SourceTree}
use Rattle.sv_tree.specs.declared.tree.stmt.Stmt.{Stmt}
use Rattle.sv_names.specs.Defaults.{stmt_notes}

-- the texts of the table of names
abbrev pub Texts : Type 0
Texts = List (List ℕ)

-- ---- imports of this subset (IEEE 1800-2017 35.5.2, 35.5.4)

-- a token has this spelling; a number that the table has not is spelled as nothing
abbrev pub spelled : Texts → Token → List ℕ → Bool
spelled names t text = bytes_eq (get_or names t.name.0 []) text

-- the first of two that are there
abbrev pub either : Option Origin → Option Origin → Option Origin
either None b = b
either (Some a) b = Some a

-- the text of an import is that of the interface to C, in quotes
abbrev pub is_dpi : Texts → Token → Bool
is_dpi names t = spelled names t (34 ∷ codes "DPI-C" ++ 34 ∷ [])

-- the place of `pure`, where the import has no result
abbrev pub pure_without_result : Texts → Option Token → Token → Option Origin
pure_without_result names None result_word = None
pure_without_result names (Some manner) result_word =
    if spelled names manner (codes "pure") && spelled names result_word (codes "void") then Some manner.at else None

-- the place of the first token of an argument
abbrev pub argument_at : Argument → Origin
argument_at x = first_at x.input x.kind.word
  where
    first_at : Option Token → Token → Origin
    first_at None word = word.at
    first_at (Some input) word = input.at

-- the place of the ninth argument, where there is one
abbrev pub ninth_argument : Option (CommaList Argument) → Option Origin
ninth_argument None = None
ninth_argument (Some list) = option_map (λ j. argument_at j.item) (slice_get list.more 7)

-- the place of what is wrong with an import: its text, a pure one without result, more than eight arguments
abbrev pub bad_import : Texts → Import → Option Origin
bad_import names x =
    if is_dpi names x.text then either (pure_without_result names x.manner x.result.word) (ninth_argument x.args) else Some x.text.at

-- ---- what is noted, item by item in token order

pub record Noted : Type 0 where
  -- the names of the modules that were instantiated
  pub used : List ℕ
  -- the place of the first bad import
  pub bad : Option Origin
  -- the first word `default` that is a second one of its `case`
  pub twice : Option Token

abbrev pub nothing_noted : Noted
nothing_noted = record { used = []; bad = None; twice = None }

-- what a part adds to what was noted before it
abbrev pub Notes : Type 0
Notes = Noted → Noted

abbrev pub note_instance : ℕ → Notes
note_instance name n = record n { used = n.used ++ name ∷ [] }

abbrev pub note_import : Texts → Import → Notes
note_import names x n = record n { bad = either n.bad (bad_import names x) }

abbrev pub note_body : Stmt → Notes
note_body body n = record n { twice = stmt_notes body n.twice }

-- one part after another
abbrev pub in_order : List Notes → Notes
in_order [] n = n
in_order (part ∷ more) n = in_order more (part n)

module _ (names : Texts) where
  abbrev pub note_item : Item-F Notes Notes Notes → Notes
  note_item (Item-F.Import x) = note_import names x
  note_item (Item-F.Comb word body) = note_body body
  note_item (Item-F.Star word at star body) = note_body body
  note_item (Item-F.ParenStar word at opens star closes body) = note_body body
  note_item (Item-F.Clocked word at opens events closes body) = note_body body
  note_item (Item-F.Generate word parts end) = in_order parts
  note_item (Item-F.For head body) = body
  note_item (Item-F.If branches test body) = λ n. body (in_order branches n)
  note_item (Item-F.IfElse branches last) = λ n. last (in_order branches n)
  note_item (Item-F.Instance child changes name opens ports closes semicolon) = note_instance child.name.0
  note_item _ = λ n. n

  abbrev pub note_block : GenBlock-F Notes Notes Notes → Notes
  note_block (GenBlock-F.Item x) = x
  note_block (GenBlock-F.Block begin label parts end end_label) = in_order parts

  abbrev pub note_branch : ItemBranch-F Notes Notes Notes → Notes
  note_branch x = x.body

  unfoldable pub block_notes : GenBlock → Notes
  block_notes = items.fold-GenBlock Notes Notes Notes note_block note_item note_branch

  unfoldable pub item_notes : Item → Notes
  item_notes = items.fold-Item Notes Notes Notes note_block note_item note_branch

  unfoldable pub branch_notes : ItemBranch → Notes
  branch_notes = items.fold-ItemBranch Notes Notes Notes note_block note_item note_branch

  abbrev pub description_notes : Description → Notes
  description_notes (description.Import x) = note_import names x
  description_notes (description.Module m) = in_order (map item_notes m.items)

  -- what is noted of a whole source
  abbrev pub noted : SourceTree → Noted
  noted tree = in_order (map description_notes tree.descriptions) nothing_noted

-- where there was memory enough, the part is noted after what was noted before
pub record Adds (old : Option Noted) (part : Notes) (new : Option Noted) : Type 0 where
  pub whole : (now : Noted) → new ≡ Some now → (before : Noted) × (old ≡ Some before) × (now ≡ part before)
