-- What the faults of parsing say.
use Rattle.std.specs.Prelude.{◌≡◌, ◌≤◌, ℕ, false, List, length}
use Rattle.sv_tree.specs.TreeRead.{Tokens}
use Rattle.parse_expr.specs.declared.fault.ParseFault.{ParseFault}
use Rattle.parse_expr.specs.declared.fault.ParseFault.TheVariants.{Construct, Syntax, TooDeep, NoMemory}
use Rattle.parse_expr.specs.Outside.{outside_at, IsFirstOutside}

-- no token is outside of the subset
abbrev pub NoneOutside : List (List ℕ) → Tokens → Type 0
NoneOutside names tokens = (k : ℕ) → outside_at names tokens k ≡ false

-- the fault names the first token that is outside; where none is, it names some token or the end
abbrev pub FaultIs : List (List ℕ) → Tokens → ParseFault → Type 0
FaultIs names tokens (Construct k) = IsFirstOutside names tokens k
FaultIs names tokens (Syntax k) = NoneOutside names tokens × (k ≤ length tokens)
FaultIs names tokens (TooDeep k) = NoneOutside names tokens × (k ≤ length tokens)
FaultIs names tokens NoMemory = Unit {0}
