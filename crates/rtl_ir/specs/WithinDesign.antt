-- When the parts of a design fit one another: every number in one of them names a thing that is there.
use Rattle.std.specs.Prelude.{ℕ, suc, Bool, true, ◌&&◌, nat_lt, List, [], ◌∷◌, length, Option, Some, None}
use Rattle.std.specs.List.{list_all}
use Rattle.rtl_ir.specs.declared.counts.Counts.{Counts}
use Rattle.rtl_ir.specs.declared.design.Var.{Var}
use Rattle.rtl_ir.specs.declared.design.Mem.{Mem}
use Rattle.rtl_ir.specs.declared.design.Import.{Import}
use Rattle.rtl_ir.specs.declared.design.Event.{Event}
use Rattle.rtl_ir.specs.declared.design.ProcKind.{ProcKind}
use Rattle.rtl_ir.specs.declared.design.ProcKind.TheVariants.{Comb, Clocked}
use Rattle.rtl_ir.specs.declared.design.Proc.{Proc}
use Rattle.rtl_ir.specs.declared.design.Port.{Port}
use Rattle.rtl_ir.specs.declared.design.FlatScope.{FlatScope}
use Rattle.rtl_ir.specs.WithinStmt.{stmt_fits}

-- how many there are
abbrev pub counts_of : List Var → List Mem → List Import → Counts
counts_of vars mems imports = record { vars = length vars; mems = length mems; imports = length imports }

-- the scope is one of so many
abbrev pub var_fits : ℕ → Var → Bool
var_fits scopes x = nat_lt x.scope scopes

abbrev pub mem_fits : ℕ → Mem → Bool
mem_fits scopes x = nat_lt x.scope scopes

-- the variable is one of so many
abbrev pub port_fits : ℕ → Port → Bool
port_fits vars x = nat_lt x.var vars

abbrev pub event_fits : ℕ → Event → Bool
event_fits vars x = nat_lt x.var vars

abbrev pub kind_fits : ℕ → ProcKind → Bool
kind_fits vars Comb = true
kind_fits vars (Clocked events) = list_all (event_fits vars) events

abbrev pub proc_fits : Counts → Proc → Bool
proc_fits counts x = kind_fits counts.vars x.kind && list_all (stmt_fits counts) x.body

-- the parent, where there is one, has a lower number
abbrev pub parent_is_below : ℕ → Option ℕ → Bool
parent_is_below n None = true
parent_is_below n (Some parent) = nat_lt parent n

-- the first of these scopes has a number
abbrev pub parents_first : ℕ → List FlatScope → Bool
parents_first n [] = true
parents_first n (x ∷ more) = parent_is_below n x.parent && parents_first (suc n) more

-- every number names a thing that is there, and each scope stands after its parent
abbrev pub design_fits : List Var → List Mem → List Proc → List Import → List Port → List FlatScope → Bool
design_fits vars mems procs imports ports scopes =
    parents_first 0 scopes
    && (list_all (var_fits (length scopes)) vars
    && (list_all (mem_fits (length scopes)) mems
    && (list_all (port_fits (length vars)) ports
    && list_all (proc_fits (counts_of vars mems imports)) procs)))
