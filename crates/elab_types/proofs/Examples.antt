-- Types, addresses, turns and branches of small declarations.
use Rattle.std.proofs.Common.{◌≡◌, true, false, [], ◌∷◌, Option, Some, None, Ok, Err, pos, neg_ℤ, refl, ap, ◌∙◌}
use Rattle.vs_base.specs.declared.origin.Origin.{Origin}
use Rattle.vs_base.specs.declared.types.ValueType.{ValueType}
use Rattle.vs_base.specs.Number.{kept}
use Rattle.sv_tree.specs.declared.symbol.Symbol.TheVariants as sym
use Rattle.sv_tree.specs.declared.token.Token.{Token}
use Rattle.sv_tree.specs.declared.tree.item.GenBlock.{GenBlock, out-GenBlock}
use Rattle.sv_tree.specs.declared.tree.item.GenBlock.TheOpen.{Item-F}
use Rattle.sv_tree.specs.declared.tree.item.Item.{Item}
use Rattle.sv_tree.specs.declared.tree.item.ItemBranch.{ItemBranch}
use Rattle.sv_tree.specs.declared.tree.stmt.Test.{Test}
use Rattle.sv_expr.specs.Environment.{Environment}
use Rattle.sv_expr.specs.Meaning.{FirstFault}
use Rattle.sv_expr.specs.declared.fault.WalkFault.{WalkFault}
use Rattle.sv_expr.specs.declared.fault.WalkFault.TheVariants.{TooWide, BadRange}
use Rattle.elab_types.specs.declared.kinds.Direction.TheVariants.{Output}
use Rattle.elab_types.specs.Branch.{Guarded, Taken, Stays, GoesOn, branch, tests_in, last_in, if_in, by_test, decided, decided_in}
use Rattle.elab_types.specs.Memory as memory
use Rattle.elab_types.specs.Packed as packed
use Rattle.elab_types.specs.Parameter.{OfValue, Full, converted}
use Rattle.elab_types.specs.Port as port
use Rattle.elab_types.specs.Turns.{by_one, holds}
use Rattle.elab_types.specs.Word.{sized, fixed_width, keeps_sign, has_sign, says_signed, unless_void}
use Rattle.elab_types.proofs.Taking.{not_held, at_fault, taken_by}

abbrev at : Origin
at = record { file = 0; line = 1; col = 1 }

-- ---- words: `int` has 32 bits and a sign, `bit` one bit and none, whatever is said; `void` is no result

int : sized (fixed_width sym.Int) (keeps_sign [] None) ≡ record { width = 32; signed = true }
int = refl

longint : sized (fixed_width sym.Longint) (keeps_sign [] None) ≡ record { width = 64; signed = true }
longint = refl

byte_unsigned : sized (fixed_width sym.Byte) (says_signed sym.Unsigned) ≡ record { width = 8; signed = false }
byte_unsigned = refl

one_bit : sized (fixed_width sym.Bit) true ≡ record { width = 1; signed = false }
one_bit = refl

vector_signed : says_signed sym.Signed ≡ true
vector_signed = refl

vector_alone : has_sign [] None ≡ false
vector_alone = refl

no_result : (kind : ValueType) → unless_void sym.Void kind ≡ None
no_result kind = refl

-- ---- `[7:4]` has 4 bits from bit 4, `[0:0]` one, `[4:7]` and `[0:-1]` are no ranges, `[128:0]` is too wide

from_7_to_4 : packed.of_ends (pos 7) (pos 4) false ≡ record { kind = record { width = 4; signed = false }; lsb = 4 }
from_7_to_4 = refl

seven_to_4_is_one : packed.ends_fault at (pos 7) (pos 4) ≡ None
seven_to_4_is_one = refl

from_0_to_0 : packed.of_ends (pos 0) (pos 0) true ≡ packed.one_bit true
from_0_to_0 = refl

up_from_4_to_7 : packed.ends_fault at (pos 4) (pos 7) ≡ Some (BadRange at)
up_from_4_to_7 = refl

below_0 : packed.ends_fault at (pos 0) (neg_ℤ (pos 1)) ≡ Some (BadRange at)
below_0 = refl

bits_128 : packed.ends_fault at (pos 127) (pos 0) ≡ None
bits_128 = refl

bits_129 : packed.ends_fault at (pos 128) (pos 0) ≡ Some (TooWide at)
bits_129 = refl

-- ---- memories: `[0:255]` and `[255:0]` have the same addresses, `[-2:1]` has four, `[0]` has none

lesser_first : memory.ascending (memory.lesser (pos 255) (pos 0)) (memory.greater (pos 255) (pos 0)) ≡ record { low = pos 0; count = 256 }
lesser_first = refl

from_below_0 : memory.ascending (neg_ℤ (pos 2)) (pos 1) ≡ record { low = neg_ℤ (pos 2); count = 4 }
from_below_0 = refl

no_element : memory.ends_fault at (pos 0) (neg_ℤ (pos 1)) ≡ Some (BadRange at)
no_element = refl

elements_65_536 : memory.ends_fault at (pos 0) (pos 65535) ≡ None
elements_65_536 = refl

elements_65_537 : memory.ends_fault at (pos 0) (pos 65536) ≡ Some (BadRange at)
elements_65_537 = refl

-- ---- ports: without a direction and a type as the one before, with a direction alone one bit

as_before : (before_it : port.PortShape) → port.direction_of [] None before_it ≡ before_it.direction
as_before before_it = refl

output_word : port.by_word sym.Output ≡ Output
output_word = refl

one_bit_after_direction : (direction : Token) (before_it : port.PortShape) → port.without_type (Some direction) before_it ≡ packed.one_bit false
one_bit_after_direction direction before_it = refl

-- ---- parameters: `parameter bit [3:0] P = 8'd37` is 5, `parameter P = 8'd37` has 8 bits

cut_to_its_type : converted (Full (record { width = 4; signed = false })) (record { kind = record { width = 8; signed = false }; value = kept 8 37 }) ≡ record { kind = record { width = 4; signed = false }; value = kept 4 5 }
cut_to_its_type = refl

-- -1 of 4 bits is 255 of 8
extended_by_its_sign : converted (Full (record { width = 8; signed = false })) (record { kind = record { width = 4; signed = true }; value = kept 4 15 }) ≡ record { kind = record { width = 8; signed = false }; value = kept 8 255 }
extended_by_its_sign = refl

as_its_value : converted OfValue (record { kind = record { width = 8; signed = false }; value = kept 8 37 }) ≡ record { kind = record { width = 8; signed = false }; value = kept 8 37 }
as_its_value = refl

-- ---- turns: `i++` and `i--` of 32 bits

one_up : by_one sym.PlusPlus (kept 32 7) ≡ kept 32 8
one_up = refl

one_down_from_0 : by_one sym.MinusMinus (kept 32 0) ≡ kept 32 4294967295
one_down_from_0 = refl

-- ---- a generate `if`: the tests of `if (x) A else if (y) B` and of `if (x) A else if (y) B else C`

without_else : (x : ItemBranch) (y : Test) (b : GenBlock) → tests_in (Item-F.If (x ∷ []) y b) ≡ branch x ∷ record { test = y.test; block = b } ∷ []
without_else x y b = refl

no_last : (x : ItemBranch) (y : Test) (b : GenBlock) → last_in (Item-F.If (x ∷ []) y b) ≡ None
no_last x y b = refl

with_else : (x y : ItemBranch) (c : GenBlock) → tests_in (Item-F.IfElse (x ∷ y ∷ []) c) ≡ branch x ∷ branch y ∷ []
with_else x y c = refl

last_block : (x y : ItemBranch) (c : GenBlock) → last_in (Item-F.IfElse (x ∷ y ∷ []) c) ≡ Some c
last_block x y c = refl

module _ (env : Environment) (a b : Guarded) where
  fails : Guarded → Type 0
  fails x = (None ≡ FirstFault env x.test) × (false ≡ holds env x.test)

  -- of `if (0) A else if (1) B else C` it is B
  second : (last : Option GenBlock) → fails a → FirstFault env b.test ≡ None → holds env b.test ≡ true → decided env (a ∷ b ∷ []) last ≡ Ok (Some b.block)
  unfolding fails
  second last one clean holds_b =
      not_held a.block (decided env (b ∷ []) last) one.0 one.1 refl
      ∙ ap (λ f. by_test f (holds env b.test) b.block (Ok last)) clean
      ∙ ap (λ h. by_test None h b.block (Ok last)) holds_b

  -- of `if (0) A else if (0) B else C` it is C, and without `else C` it is no block
  third : (last : Option GenBlock) → fails a → fails b → decided env (a ∷ b ∷ []) last ≡ Ok last
  unfolding fails
  third last one other = not_held a.block (decided env (b ∷ []) last) one.0 one.1 refl ∙ not_held b.block (Ok last) other.0 other.1 refl

  -- the fault of the first test is told, whatever the second one is
  fault_first : (fault : WalkFault) (last : Option GenBlock) → Some fault ≡ FirstFault env a.test → decided env (a ∷ b ∷ []) last ≡ Err fault
  fault_first fault last is = at_fault (holds env a.test) a.block (decided env (b ∷ []) last) is

  -- of `if (1) if (0) X else Y` it is Y
  inner : (g y : GenBlock) (i : Item) → if_in (out-GenBlock g) ≡ Some i → decided_in env i ≡ Ok (Some y) → if_in (out-GenBlock y) ≡ None → Taken env (Ok (Some g)) (Ok (Some y))
  inner g y i is so whole = GoesOn g i (Ok (Some y)) is (taken_by env so (Stays y whole))
