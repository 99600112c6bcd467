-- The ports of the top module, which are the first variables of the design (IEEE 1800-2017 23.2.2.3, 23.3.1).
use Rattle.std.specs.Prelude.{ℕ, suc, Bool, true, false, not, ◌==◌, if◌then◌else◌, List, [], ◌∷◌, Option, Some, None}
use Rattle.std.specs.Option.{option_map}
use Rattle.sv_tree.specs.declared.symbol.Symbol.{Symbol}
use Rattle.sv_tree.specs.declared.symbol.Symbol.TheVariants as sym
use Rattle.sv_tree.specs.declared.token.Token.{Token}
use Rattle.sv_tree.specs.declared.tree.list.CommaList.{CommaList}
use Rattle.sv_tree.specs.declared.tree.list.Joined.{Joined}
use Rattle.sv_tree.specs.declared.tree.source.Description.{Description}
use Rattle.sv_tree.specs.declared.tree.source.Description.TheVariants as description
use Rattle.sv_tree.specs.declared.tree.source.Module.{Module}
use Rattle.sv_tree.specs.declared.tree.source.Port.{Port}
use Rattle.sv_tree.specs.declared.tree.source.PortList.{PortList}
use Rattle.sv_tree.specs.Spelling.{symbol_of}
use Rattle.sv_elab.specs.declared.scope.Scope.{Scope}
use Rattle.rtl_ir.specs.declared.design.Port.{Port as FlatPort}

-- the first module of a name
abbrev pub module_named : ℕ → List Description → Option Module
module_named name [] = None
module_named name (description.Import x ∷ more) = module_named name more
module_named name (description.Module m ∷ more) = if m.name.name.0 == name then Some m else module_named name more

abbrev pub says_output : Symbol → Bool
says_output sym.Output = true
says_output _ = false

-- without a word the direction is that of the port before
abbrev pub is_input : List (List ℕ) → Bool → Option Token → Bool
is_input texts before_it None = before_it
is_input texts before_it (Some word) = not (says_output (symbol_of texts word))

-- ports after one with this number and this direction
abbrev pub further_ports : List (List ℕ) → FlatPort → List (Joined Port) → List FlatPort
further_ports texts before_it [] = []
further_ports texts before_it (x ∷ more) =
    let here : FlatPort = record { var = suc before_it.var; input = is_input texts before_it.input x.item.direction } in
    here ∷ further_ports texts here more

abbrev pub listed_ports : List (List ℕ) → CommaList Port → List FlatPort
listed_ports texts list =
    let first : FlatPort = record { var = 0; input = is_input texts true list.first.direction } in
    first ∷ further_ports texts first list.more

abbrev pub list_of : Option PortList → Option (CommaList Port)
list_of None = None
list_of (Some ports) = ports.list

abbrev pub ports_in : List (List ℕ) → Option (CommaList Port) → List FlatPort
ports_in texts None = []
ports_in texts (Some list) = listed_ports texts list

abbrev pub ports_of : List (List ℕ) → Module → List FlatPort
ports_of texts m = ports_in texts (list_of m.ports)

-- the module of the first scope
abbrev pub top_module : List Description → List Scope → Option Module
top_module source [] = None
top_module source (top ∷ more) = module_named top.module.0 source

-- the ports of that module
abbrev pub top_ports : List (List ℕ) → List Description → List Scope → Option (List FlatPort)
top_ports texts source scopes = option_map (ports_of texts) (top_module source scopes)
