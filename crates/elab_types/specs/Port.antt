-- The types of ports (IEEE 1800-2017 23.2.2.3).
use Rattle.std.specs.Prelude.{ℕ, false, List, Option, Some, None}
use Rattle.sv_tree.specs.declared.symbol.Symbol.{Symbol}
use Rattle.sv_tree.specs.declared.symbol.Symbol.TheVariants as sym
use Rattle.sv_tree.specs.declared.token.Token.{Token}
use Rattle.sv_tree.specs.declared.tree.source.Port.{Port}
use Rattle.sv_tree.specs.declared.tree.words.DataType.{DataType}
use Rattle.sv_tree.specs.Spelling.{symbol_of}
use Rattle.sv_expr.specs.declared.fault.WalkFault.{WalkFault}
use Rattle.sv_expr.specs.Environment.{Environment}
use Rattle.elab_types.specs.declared.kinds.Direction.{Direction}
use Rattle.elab_types.specs.declared.kinds.Direction.TheVariants.{Input, Output}
use Rattle.elab_types.specs.declared.kinds.PortType.{PortType}
use Rattle.elab_types.specs.Packed.{Shape, shape, one_bit, packed_of}
use Rattle.elab_types.specs.Packed as packed

-- the direction and the type of a port
pub record PortShape : Type 0 where
  pub direction : Direction
  pub packed : Shape

abbrev pub port_shape : PortType → PortShape
port_shape p = record { direction = p.direction; packed = shape p.packed }

abbrev pub no_port : PortShape
no_port = record { direction = Input; packed = one_bit false }

abbrev pub by_word : Symbol → Direction
by_word sym.Output = Output
by_word _ = Input

abbrev pub direction : List (List ℕ) → Token → Direction
direction texts word = by_word (symbol_of texts word)

-- without a direction that of the port before
abbrev pub direction_of : List (List ℕ) → Option Token → PortShape → Direction
direction_of texts None before_it = before_it.direction
direction_of texts (Some word) before_it = direction texts word

-- without a type one bit, and with no direction either the type of the port before
abbrev pub without_type : Option Token → PortShape → Shape
without_type None before_it = before_it.packed
without_type (Some word) before_it = one_bit false

module _ (env : Environment) where
  abbrev pub type_of : Option DataType → Shape → Shape
  type_of None other = other
  type_of (Some kind) other = packed_of env kind

  abbrev pub port_of : Port → PortShape → PortShape
  port_of port before_it = record { direction = direction_of env.texts port.direction before_it; packed = type_of port.kind (without_type port.direction before_it) }

  abbrev pub fault_if : Option DataType → Option WalkFault
  fault_if None = None
  fault_if (Some kind) = packed.fault_of env kind

  abbrev pub fault_of : Port → Option WalkFault
  fault_of port = fault_if port.kind
