-- What an expression reads: the bits of each name in it, and what the indices of its selects read, where a constant reads nothing
-- (IEEE 1800-2017 9.2.2.2.1).
use Rattle.std.specs.Prelude.{ℕ, Bool, if◌then◌else◌, List, [], ◌∷◌, ◌++◌, map, Option, Some, None, ℤ}
use Rattle.std.specs.Option.{option_map}
use Rattle.vs_base.specs.Number.{Number, reading}
use Rattle.rtl_ir.specs.declared.expr.Expr.{Expr}
use Rattle.rtl_ir.specs.declared.expr.ExprNode.{ExprNode}
use Rattle.rtl_ir.specs.declared.expr.Choice.{Choice}
use Rattle.rtl_ir.specs.declared.expr.Call.{Call}
use Rattle.rtl_ir.specs.declared.expr.Target.{Target}
use Rattle.rtl_ir.specs.declared.expr.Select.{Select}
use Rattle.rtl_ir.specs.declared.expr.ExprNode.TheOpen.{Expr-F, ExprNode-F, Choice-F, Call-F, Target-F, Select-F}
use Rattle.rtl_ir.specs.declared.expr.ExprNode.TheFolds as exprs
use Rattle.rtl_pieces.specs.declared.range.BitRange.{BitRange}
use Rattle.rtl_pieces.specs.declared.item.Item.{Item}
use Rattle.rtl_pieces.specs.declared.item.Part.{Part}
use Rattle.rtl_pieces.specs.Named.{whole_item, named_bits}

-- from the ranges found before a part to those found with it
abbrev pub Notes : Type 0
Notes = List BitRange → List BitRange

abbrev pub nothing_more : Notes
nothing_more found = found

-- one part after another
abbrev pub in_order : List Notes → Notes
in_order [] found = found
in_order (part ∷ more) found = in_order more (part found)

-- an expression: its value where it is a constant, and what it reads
pub record Seen : Type 0 where
  pub constant : Option ℤ
  pub reads : Notes

-- a select: what it takes where its index is a constant, and what its index reads
pub record Taken : Type 0 where
  pub part : Option Part
  pub reads : Notes

-- a name with its selects: its bits, and what its indices read
pub record Named : Type 0 where
  pub bits : BitRange
  pub indices : Notes

-- ---- the bits of a name: those of a constant select, and otherwise the whole variable or memory

abbrev pub by_part : Item → ℤ → Option Part → BitRange
by_part item address (Some part) = named_bits item address (Some part)
by_part item address None = whole_item item

abbrev pub by_select : Item → ℤ → Option (Option Part) → BitRange
by_select item address (Some part) = by_part item address part
by_select item address None = named_bits item address None

abbrev pub by_address : Item → Option ℤ → Option (Option Part) → BitRange
by_address item (Some address) select = by_select item address select
by_address item None select = whole_item item

-- a variable has no address
abbrev pub address_in : Item → Option (Option ℤ) → Option ℤ
address_in item (Some address) = address
address_in item None = Some item.low

abbrev pub bits_by : Item → Bool → Option (Option ℤ) → Option (Option Part) → BitRange
bits_by item whole element select = if whole then whole_item item else by_address item (address_in item element) select

-- ---- one layer, over what is known of its parts

abbrev pub seen_or_none : Option Seen → Notes
seen_or_none (Some e) = e.reads
seen_or_none None = nothing_more

abbrev pub taken_or_none : Option Taken → Notes
taken_or_none (Some s) = s.reads
taken_or_none None = nothing_more

-- the number that a constant stands for, read with or without a sign
abbrev pub constant_of : Bool → Number → Option ℤ
constant_of signed value = Some (reading signed value)

abbrev pub part : ℤ → ℕ → Bool → Part
part at width down = record { at = at; width = width; down = down }

abbrev pub part_by : Option ℤ → ℕ → Bool → Option Part
part_by (Some at) width down = Some (part at width down)
part_by None width down = None

abbrev pub of_parts : Notes → Seen
of_parts reads = record { constant = None; reads = reads }

abbrev pub all_seen : List Seen → Notes
all_seen exprs = in_order (map (λ e. e.reads) exprs)

abbrev pub read_target : Named → Notes
read_target t found = t.indices found ++ t.bits ∷ []

module _ (item : Bool → ℕ → Item) where
  abbrev pub call_layer : Call-F (Bool → Seen) Notes Notes Seen Taken Named → Notes
  call_layer c = all_seen c.args

  abbrev pub choice_layer : Choice-F (Bool → Seen) Notes Notes Seen Taken Named → Notes
  choice_layer c found = c.value.reads (c.test.reads found)

  abbrev pub select_layer : Select-F (Bool → Seen) Notes Notes Seen Taken Named → Taken
  select_layer s = record { part = part_by s.at.constant s.width s.down; reads = s.at.reads }

  abbrev pub target_layer : Target-F (Bool → Seen) Notes Notes Seen Taken Named → Named
  target_layer t = record {
    bits = bits_by (item t.mem t.item) t.whole (option_map (λ e. e.constant) t.element) (option_map (λ s. s.part) t.select);
    indices = λ found. taken_or_none t.select (seen_or_none t.element found);
  }

  -- by whether it is read with a sign
  abbrev pub node_layer : ExprNode-F (Bool → Seen) Notes Notes Seen Taken Named → Bool → Seen
  node_layer (ExprNode-F.Const value) signed = record { constant = constant_of signed value; reads = nothing_more }
  node_layer (ExprNode-F.Read target) signed = of_parts (read_target target)
  node_layer (ExprNode-F.Prefix operators operand) signed = of_parts operand.reads
  node_layer (ExprNode-F.Level operands operators) signed = of_parts (all_seen operands)
  node_layer (ExprNode-F.Choose choices last) signed = of_parts (λ found. last.reads (in_order choices found))
  node_layer (ExprNode-F.Concat parts) signed = of_parts (all_seen parts)
  node_layer (ExprNode-F.Repeat count parts) signed = of_parts (all_seen parts)
  node_layer (ExprNode-F.Call call) signed = of_parts call
  node_layer (ExprNode-F.Sign operand) signed = of_parts operand.reads

  abbrev pub expr_layer : Expr-F (Bool → Seen) Notes Notes Seen Taken Named → Seen
  expr_layer e = e.node e.signed

  -- ---- whole expressions

  unfoldable pub node_seen : ExprNode → Bool → Seen
  node_seen = exprs.fold-ExprNode (Bool → Seen) Notes Notes Seen Taken Named node_layer call_layer choice_layer expr_layer select_layer target_layer

  unfoldable pub call_reads : Call → Notes
  call_reads = exprs.fold-Call (Bool → Seen) Notes Notes Seen Taken Named node_layer call_layer choice_layer expr_layer select_layer target_layer

  unfoldable pub choice_reads : Choice → Notes
  choice_reads = exprs.fold-Choice (Bool → Seen) Notes Notes Seen Taken Named node_layer call_layer choice_layer expr_layer select_layer target_layer

  unfoldable pub expr_seen : Expr → Seen
  expr_seen = exprs.fold-Expr (Bool → Seen) Notes Notes Seen Taken Named node_layer call_layer choice_layer expr_layer select_layer target_layer

  unfoldable pub select_taken : Select → Taken
  select_taken = exprs.fold-Select (Bool → Seen) Notes Notes Seen Taken Named node_layer call_layer choice_layer expr_layer select_layer target_layer

  unfoldable pub target_named : Target → Named
  target_named = exprs.fold-Target (Bool → Seen) Notes Notes Seen Taken Named node_layer call_layer choice_layer expr_layer select_layer target_layer

  -- ---- what is known of each

  unfoldable pub node_reads : ExprNode → Bool → Notes
  node_reads n signed = (node_seen n signed).reads

  unfoldable pub node_constant : ExprNode → Bool → Option ℤ
  node_constant n signed = (node_seen n signed).constant

  unfoldable pub expr_reads : Expr → Notes
  expr_reads e = (expr_seen e).reads

  unfoldable pub expr_constant : Expr → Option ℤ
  expr_constant e = (expr_seen e).constant

  unfoldable pub select_reads : Select → Notes
  select_reads s = (select_taken s).reads

  unfoldable pub select_part : Select → Option Part
  select_part s = (select_taken s).part

  unfoldable pub target_indices : Target → Notes
  target_indices t = (target_named t).indices

  unfoldable pub target_bits : Target → BitRange
  target_bits t = (target_named t).bits

  abbrev pub exprs_read : List Expr → Notes
  exprs_read exprs = in_order (map expr_reads exprs)
