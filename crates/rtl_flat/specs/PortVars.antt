-- The variables of the top's ports, which are the first of a design (IEEE 1800-2017 23.2.2.3, 23.3.1).
use Rattle.std.specs.Prelude.{ℕ, List, [], ◌∷◌, map, length, Option, Some, None}
use Rattle.scope_table.specs.Scopes.{at_file_level}
use Rattle.vs_base.specs.Number.{kept}
use Rattle.sv_tree.specs.declared.tree.list.CommaList.{CommaList}
use Rattle.sv_tree.specs.declared.tree.list.Joined.{Joined}
use Rattle.sv_tree.specs.declared.tree.source.Description.{Description}
use Rattle.sv_tree.specs.declared.tree.source.Module.{Module}
use Rattle.sv_tree.specs.declared.tree.source.Port.{Port}
use Rattle.sv_expr.specs.declared.scope.Denoted.TheVariants as denoted
use Rattle.sv_expr.specs.Environment.{Environment, text}
use Rattle.elab_types.specs.Port.{PortShape, no_port, port_of}
use Rattle.sv_elab.specs.declared.scope.Scope.{Scope}
use Rattle.rtl_ir.specs.declared.design.Var.{Var}
use Rattle.rtl_lower.specs.Kinds.{environment_of}
use Rattle.rtl_flat.specs.Heads.{in_head}
use Rattle.rtl_flat.specs.Laid.{Typed, typed, Begins}
use Rattle.rtl_flat.specs.Ports.{list_of, top_module}

-- ---- the ports of a list

module _ (env : Environment) where
  -- a port of the top, which is 0 before the first eval
  abbrev pub of_port : Port → PortShape → Typed
  of_port port kind = record { name = text env port.name; packed = kind.packed; init = kept kind.packed.kind.width 0; scope = 0 }

  -- ports after one of this direction and type
  abbrev pub further : PortShape → List (Joined Port) → List Typed
  further before_it [] = []
  further before_it (x ∷ more) = of_port x.item (port_of env x.item before_it) ∷ further (port_of env x.item before_it) more

  abbrev pub listed : CommaList Port → List Typed
  listed list = of_port list.first (port_of env list.first no_port) ∷ further (port_of env list.first no_port) list.more

  abbrev pub ports_in : Option (CommaList Port) → List Typed
  ports_in None = []
  ports_in (Some list) = listed list

-- ---- the ports of the first scope's module

-- what names denote where they stand: the constants of the parameter list
abbrev pub top_environment : List (List ℕ) → Module → Scope → Environment
top_environment texts m top = environment_of texts (in_head m top (at_file_level (length texts) denoted.Nothing))

abbrev pub AreOfModule : List (List ℕ) → Option Module → List Scope → List Var → Type 0
AreOfModule texts None scopes vars = ⊥
AreOfModule texts (Some m) [] vars = ⊥
AreOfModule texts (Some m) (top ∷ more) vars = Begins (ports_in (top_environment texts m top) (list_of m.ports)) (map typed vars)

-- the first variables are those of the ports of the first scope's module, in order
abbrev pub ArePortVars : List (List ℕ) → List Description → List Scope → List Var → Type 0
ArePortVars texts source scopes vars = AreOfModule texts (top_module source scopes) scopes vars
