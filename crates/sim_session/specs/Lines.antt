-- The line of an eval on standard output.
use Rattle.std.specs.Prelude.{ℕ, zero, suc, ◌+◌, ◌/◌, List, [], ◌∷◌, ◌++◌, if◌then◌else◌, codes, decimal, Option, Some, None, slice_get}
use Rattle.vs_base.specs.Number.{Number, hex_digit_of}
use Rattle.rtl_ir.specs.declared.design.Var.{Var}
use Rattle.rtl_ir.specs.declared.design.Port.{Port}

-- the last so many hexadecimal digits
abbrev pub hex_of : ℕ → Number → List ℕ
hex_of zero n = []
hex_of (suc k) n = hex_digit_of n k ∷ hex_of k n

-- a value in hexadecimal: it has a quarter of its width, rounded up, as its number of digits
abbrev pub hex_text : Number → List ℕ
hex_text n = hex_of ((n.width + 3) / 4) n

abbrev pub name_if : Option Var → List ℕ
name_if (Some x) = x.name
name_if None = []

abbrev pub value_if : Option Number → List ℕ
value_if (Some n) = hex_text n
value_if None = []

-- an output: a space, its name and its value
abbrev pub output_text : List Var → List Number → Port → List ℕ
output_text vars values port =
    if port.input then [] else codes " " ++ (name_if (slice_get vars port.var) ++ (codes "=" ++ value_if (slice_get values port.var)))

abbrev pub outputs_text : List Var → List Number → List Port → List ℕ
outputs_text vars values [] = []
outputs_text vars values (port ∷ more) = output_text vars values port ++ outputs_text vars values more

-- the line of eval k, of values of the variables
unfoldable pub out_line : List Var → List Port → ℕ → List Number → List ℕ
out_line vars ports k values = decimal k ++ (outputs_text vars values ports ++ codes "\n")
