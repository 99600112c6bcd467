-- What the host tells of the imports of a design, and which of them are refused.
use Rattle.std.specs.Prelude.{◌≡◌, ℕ, suc, Bool, true, false, ◌&&◌, not, List, [], ◌∷◌, map, position, slice_get, Option, Some, None, unwrap_or, ⊤}
use Rattle.rtl_ir.specs.declared.design.Import.{Import}
use Rattle.rtl_ir.specs.declared.whole.Design.{Design}
use Rattle.dpi_host.specs.declared.mode.Mode.{Mode}
use Rattle.dpi_host.specs.Modes.{is_deemed}
use Rattle.proc_calls.specs.Calls.{is_called}
use Rattle.model_build.specs.declared.import.ImportUse.{ImportUse}
use Rattle.model_build.specs.declared.fault.BuildFault.{BuildFault}
use Rattle.model_build.specs.declared.fault.BuildFault.TheVariants as fault

-- A host has a number for each import that it knows, by the name, and tells of each number whether its answer goes by arguments alone.

module _ (id_of : List ℕ → Option ℕ) (by_args : ℕ → Bool) where
  abbrev pub use_of : Mode → Bool → Import → ImportUse
  use_of mode called import = record { called = called; deemed = is_deemed mode import.declared_pure; id = id_of import.name; by_args = by_args (unwrap_or (id_of import.name) 0) }

  -- of the imports from a number on
  abbrev pub uses_from : Mode → (ℕ → Bool) → ℕ → List Import → List ImportUse
  uses_from mode called k [] = []
  uses_from mode called k (import ∷ more) = use_of mode (called k) import ∷ uses_from mode called (suc k) more

  abbrev pub uses_of : Mode → Design → List ImportUse
  uses_of mode design = uses_from mode (is_called design.procs) 0 design.imports

  -- the host's numbers; 0 where it has none
  abbrev pub ids_of : List Import → List ℕ
  ids_of imports = map (λ (i : Import). unwrap_or (id_of i.name) 0) imports

abbrev pub deemed_of : Mode → List Import → List Bool
deemed_of mode imports = map (λ (i : Import). is_deemed mode i.declared_pure) imports

-- ---- refusals

abbrev pub is_missing : Option ℕ → Bool
is_missing None = true
is_missing (Some id) = false

-- some process calls it, and the host does not have it
abbrev pub is_unknown : ImportUse → Bool
is_unknown u = u.called && is_missing u.id

-- some process calls it, it is deemed safe, and its answers are not by its arguments alone
abbrev pub is_unsafe : ImportUse → Bool
is_unsafe u = (u.called && u.deemed) && not u.by_args

abbrev pub name_or_none : Option Import → List ℕ
name_or_none (Some import) = import.name
name_or_none None = []

abbrev pub import_name : List Import → ℕ → List ℕ
import_name imports k = name_or_none (slice_get imports k)

pub record AllAnswer (uses : List ImportUse) : Type 0 where
  pub known : position is_unknown uses ≡ None
  pub safe : position is_unsafe uses ≡ None

-- the first of them that is unknown
pub record IsUnknown (imports : List Import) (uses : List ImportUse) (name : List ℕ) : Type 0 where
  pub number : ℕ
  pub first : position is_unknown uses ≡ Some number
  pub named : name ≡ import_name imports number

-- all are known, and this is the first that is not by arguments alone
pub record IsUnsafe (imports : List Import) (uses : List ImportUse) (name : List ℕ) : Type 0 where
  pub number : ℕ
  pub known : position is_unknown uses ≡ None
  pub first : position is_unsafe uses ≡ Some number
  pub named : name ≡ import_name imports number

abbrev pub ImportFault : List Import → List ImportUse → BuildFault → Type 0
ImportFault imports uses (fault.NoMemory error) = ⊤
ImportFault imports uses (fault.UnknownImport name) = IsUnknown imports uses name
ImportFault imports uses (fault.NotByArguments name) = IsUnsafe imports uses name
ImportFault imports uses _ = ⊥
