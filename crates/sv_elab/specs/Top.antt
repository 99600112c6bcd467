-- The top module (IEEE 1800-2017 23.3.1), by its number among the descriptions of a source.
use Rattle.std.specs.Prelude.{◌≡◌, ℕ, zero, suc, List, [], ◌∷◌, Option, Some, None}
use Rattle.sv_tree.specs.declared.tree.source.Description.{Description}
use Rattle.sv_tree.specs.declared.tree.source.Description.TheVariants as description
use Rattle.sv_elab.specs.declared.scope.Scope.{Scope}
use Rattle.sv_elab.specs.Rooted.{top_module}

-- the name of a module
abbrev pub name_of : Description → Option ℕ
name_of (description.Import x) = None
name_of (description.Module m) = Some m.name.name.0

-- the name of the module of this number
abbrev pub name_at : List Description → ℕ → Option ℕ
name_at [] at = None
name_at (x ∷ more) zero = name_of x
name_at (x ∷ more) (suc at) = name_at more at

-- of these candidates for the top there is one, and the first scope is of that module
pub record IsTop (tops : List ℕ) (source : List Description) (scopes : List Scope) : Type 0 where
  pub number : ℕ
  pub one : tops ≡ number ∷ []
  pub module_is : top_module scopes ≡ name_at source number
