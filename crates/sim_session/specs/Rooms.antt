-- The greatest lengths of the texts of an eval, in bytes: the room that is taken for them before a run begins.
use Rattle.std.specs.Prelude.{ℕ, ◌+◌, ◌*◌, ◌/◌, max, List, [], ◌∷◌, length, slice_get, if◌then◌else◌, Option, Some, None}
use Rattle.dpi_host.specs.Calls.{Call}
use Rattle.rtl_ir.specs.declared.design.Var.{Var}
use Rattle.rtl_ir.specs.declared.design.Port.{Port}
use Rattle.rtl_ir.specs.declared.design.Import.{Import}
use Rattle.plan_types.specs.declared.built.Built.{Built}
use Rattle.plan_types.specs.Room.{call_room}
use Rattle.sim_session.specs.Lines.{name_if}

-- the hexadecimal digits of a value of this width
abbrev pub digits_room : Option ℕ → ℕ
digits_room (Some width) = (width + 3) / 4
digits_room None = 0

-- an output, where the variables' values have these widths: a space, its name, `=` and its digits
abbrev pub output_room : List Var → List ℕ → Port → ℕ
output_room vars widths port = if port.input then 0 else length (name_if (slice_get vars port.var)) + (2 + digits_room (slice_get widths port.var))

abbrev pub outputs_room : List Var → List ℕ → List Port → ℕ
outputs_room vars widths [] = 0
outputs_room vars widths (port ∷ more) = output_room vars widths port + outputs_room vars widths more

-- the line: at most the 20 digits of a number of 64 bits, the outputs, and a line feed
abbrev pub line_room : List Var → List ℕ → List Port → ℕ
line_room vars widths ports = 21 + outputs_room vars widths ports

-- a call: the number and a space, the name, the parentheses, the arguments, each of at most 32 digits and a comma, the reply, and a line feed
abbrev pub import_room : Import → ℕ
import_room i = length i.name + (33 * length i.args + 59)

abbrev pub import_room_if : Option Import → ℕ
import_room_if (Some i) = import_room i
import_room_if None = 0

-- the longest line of a call
abbrev pub longest : List Import → ℕ
longest [] = 0
longest (i ∷ more) = max (import_room i) (longest more)

-- lines of calls, where each has at most so many bytes
abbrev pub lines_room : ℕ → List Call → ℕ
lines_room most [] = 0
lines_room most (c ∷ more) = most + lines_room most more

-- the calls of an eval, as many as it can keep
abbrev pub log_room : Built → ℕ
log_room b = call_room b * longest b.design.imports
