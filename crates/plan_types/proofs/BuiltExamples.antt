-- What a model keeps, by examples: an input a at the places 0 to 7, and q at the places 8 to 15, of which q[3:0] is word 2, with a shadow.
use Rattle.std.proofs.Common.{◌≡◌, ℕ, Bool, true, false, List, [], ◌∷◌, Option, Some, None, pos, refl}
use Rattle.std.specs.Prelude.{◌==◌, ◌&&◌, nat_lt}
use Rattle.rtl_ir.specs.declared.design.Port.{Port}
use Rattle.rtl_pieces.specs.declared.item.Item.{Item}
use Rattle.rtl_pieces.specs.declared.layout.Word.{Word}
use Rattle.rtl_pieces.specs.Line.{Line}
use Rattle.order_levels.specs.Settling.{InOrder, Stalls}
use Rattle.task_eval.specs.declared.index.Elements.{Elements}
use Rattle.task_eval.specs.declared.op.Op.TheVariants as op
use Rattle.plan_types.specs.Drivers.{is_input}
use Rattle.plan_types.specs.Settle.{is_in_order, order_of}
use Rattle.plan_types.specs.Touches.{Touch, some_bit, plain_if, shadow_if, op_keeps, code_keeps}

abbrev item : ℕ → ℕ → Item
item first width = record { first = first; elements = 1; width = width; lsb = 0; low = pos 0 }

abbrev line : Line
line = record { items = item 0 8 ∷ item 8 8 ∷ []; vars = 2; bits = 16 }

-- ---- inputs

abbrev port : ℕ → Bool → Port
port var input = record { var = var; input = input }

the_last_bit_of_a : is_input line (port 0 true) 7 ≡ true
the_last_bit_of_a = refl

not_a_bit_of_q : is_input line (port 0 true) 8 ≡ false
not_a_bit_of_q = refl

an_output_is_none : is_input line (port 1 false) 8 ≡ false
an_output_is_none = refl

-- ---- words by their bits

abbrev low_half : Bool → Word
low_half shadow = record { holds = record { mem = false; item = 1; element = 0; bit = 0 }; len = 4; shadow = shadow }

its_last_bit : some_bit line (λ b. b == 11) (low_half false) ≡ true
its_last_bit = refl

the_bit_above : some_bit line (λ b. b == 12) (low_half false) ≡ false
the_bit_above = refl

not_its_shadow : plain_if line (λ b. b == 11) (Some (low_half true)) ≡ false
not_its_shadow = refl

its_shadow : shadow_if line (λ b. b == 11) (Some (low_half true)) ≡ true
its_shadow = refl

no_word : plain_if line (λ b. true) None ≡ false
no_word = refl

-- ---- a code that may load words 1 and 2 and store word 3: `q[3:0] <= a + q[3:0]`, whose shadow is word 3

abbrev own : Touch
own = record { loads = λ w. nat_lt 0 w && nat_lt w 3; stores = λ w. w == 3; calls = λ import. false }

keeps_to_them : code_keeps own (Some (record { ops = op.Load 1 8 ∷ op.Load 2 4 ∷ op.Store 3 4 ∷ []; stack = 2 })) ≡ true
keeps_to_them = refl

loads_another_word : code_keeps own (Some (record { ops = op.Load 1 8 ∷ op.Load 3 4 ∷ op.Store 3 4 ∷ []; stack = 2 })) ≡ false
loads_another_word = refl

stores_the_word_itself : op_keeps own (op.Store 2 4) ≡ false
stores_the_word_itself = refl

calls_an_import : op_keeps own (op.Call 0 1 8) ≡ false
calls_an_import = refl

-- the words of two elements, and of three
abbrev elements : ℕ → Elements
elements count = record { base = 1; stride = 1; count = count; address = record { signed = false; low = pos 0 } }

each_element : op_keeps own (op.LoadAt (elements 2) 8) ≡ true
each_element = refl

not_the_third : op_keeps own (op.LoadAt (elements 3) 8) ≡ false
not_the_third = refl

-- ---- settling

settled : is_in_order (InOrder (1 ∷ 0 ∷ [])) ≡ true
settled = refl

not_where_two_wait_for_each_other : is_in_order (Stalls (0 ∷ 1 ∷ [])) ≡ false
not_where_two_wait_for_each_other = refl

its_order : order_of (InOrder (1 ∷ 0 ∷ [])) ≡ 1 ∷ 0 ∷ []
its_order = refl
