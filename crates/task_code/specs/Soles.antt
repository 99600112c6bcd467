-- Targets that one store writes.
use Rattle.std.specs.Prelude.{◌≤◌}
use Rattle.vs_base.specs.declared.limits.TheConstants.{WORD}
use Rattle.task_code.specs.declared.sole.Sole.{Sole}
use Rattle.task_code.specs.declared.sole.Sole.TheVariants as sole

-- its word has from 1 to so many bits as a word may have
abbrev pub IsSole : Sole → Type 0
IsSole (sole.Word word len) = (1 ≤ len) × (len ≤ WORD)
IsSole (sole.Column rows by len) = (1 ≤ len) × (len ≤ WORD)
IsSole sole.No = Unit {0}
