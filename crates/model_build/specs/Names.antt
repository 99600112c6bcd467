-- The name of a bit, as a message tells it.
use Rattle.std.specs.Prelude.{ℕ, ◌+◌, List, [], ◌++◌, Option, Some, None, slice_get, if◌then◌else◌, codes, decimal, pos, ◌+ℤ◌}
use Rattle.std.specs.Fmt.{signed_decimal}
use Rattle.rtl_ir.specs.declared.design.Var.{Var}
use Rattle.rtl_ir.specs.declared.design.Mem.{Mem}
use Rattle.rtl_pieces.specs.declared.bit.BitRef.{BitRef}

abbrev pub in_brackets : List ℕ → List ℕ
in_brackets text = codes "[" ++ (text ++ codes "]")

-- PATH.NAME[BIT], where BIT is the declared index
abbrev pub text_of_var : BitRef → Option Var → List ℕ
text_of_var bit (Some var) = (var.path ++ (codes "." ++ var.name)) ++ in_brackets (decimal (var.lsb + bit.bit))
text_of_var bit None = []

-- PATH[ADDRESS][BIT], where ADDRESS is the declared one
abbrev pub text_of_mem : BitRef → Option Mem → List ℕ
text_of_mem bit (Some mem) = mem.path ++ (in_brackets (signed_decimal (mem.low +ℤ pos bit.element)) ++ in_brackets (decimal (mem.lsb + bit.bit)))
text_of_mem bit None = []

abbrev pub bit_name : List Var → List Mem → BitRef → List ℕ
bit_name vars mems bit = if bit.mem then text_of_mem bit (slice_get mems bit.item) else text_of_var bit (slice_get vars bit.item)
