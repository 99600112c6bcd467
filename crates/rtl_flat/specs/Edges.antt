-- The events of processes (IEEE 1800-2017 9.4.2).
use Rattle.std.specs.Prelude.{Bool, true, false, ◌==◌, List, Option, Some, None, slice_get}
use Rattle.std.specs.List.{list_all}
use Rattle.rtl_ir.specs.declared.design.Event.{Event}
use Rattle.rtl_ir.specs.declared.design.Proc.{Proc}
use Rattle.rtl_ir.specs.declared.design.ProcKind.{ProcKind}
use Rattle.rtl_ir.specs.declared.design.ProcKind.TheVariants.{Comb, Clocked}
use Rattle.rtl_ir.specs.declared.design.Var.{Var}

abbrev pub is_bit : Option Var → Bool
is_bit None = false
is_bit (Some v) = v.width == 1

-- an edge of a variable of one bit
abbrev pub is_of_bit : List Var → Event → Bool
is_of_bit vars e = is_bit (slice_get vars e.var)

abbrev pub kind_has_bit_events : List Var → ProcKind → Bool
kind_has_bit_events vars Comb = true
kind_has_bit_events vars (Clocked events) = list_all (is_of_bit vars) events

-- each event of a process is an edge of a variable of one bit
abbrev pub has_bit_events : List Var → Proc → Bool
has_bit_events vars x = kind_has_bit_events vars x.kind
