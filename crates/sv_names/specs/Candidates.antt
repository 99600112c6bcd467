-- Which modules may be the top of a design (IEEE 1800-2017 23.3.1). A module goes by its number among the descriptions of
-- the source, and by the number of its name.
use Rattle.std.specs.Prelude.{◌≡◌, ℕ, suc, Bool, true, false, not, ◌==◌, if◌then◌else◌, List, [], ◌∷◌, Option, None, Some}
use Rattle.std.specs.Option.{option_to_list}
use Rattle.std.specs.List.{list_any}
use Rattle.std.specs.Map.{lookup}
use Rattle.sv_tree.specs.declared.names.NameId.{NameId}
use Rattle.sv_tree.specs.declared.tree.source.Description.{Description}
use Rattle.sv_tree.specs.declared.tree.source.Description.TheVariants as description

-- a name is among others
abbrev pub among : ℕ → List ℕ → Bool
among name [] = false
among name (other ∷ more) = if other == name then true else among name more

abbrev pub is_module_of : ℕ → Description → Bool
is_module_of name (description.Import x) = false
is_module_of name (description.Module m) = m.name.name.0 == name

-- a module that no instance names
abbrev pub is_unused : List ℕ → Description → Bool
is_unused used (description.Import x) = false
is_unused used (description.Module m) = not (among m.name.name.0 used)

-- the first module of a name, counted from a number on
abbrev pub first_module : ℕ → ℕ → List Description → Option ℕ
first_module name at [] = None
first_module name at (x ∷ more) = if is_module_of name x then Some at else first_module name (suc at) more

-- the modules that no instance names, counted from a number on
abbrev pub unused : List ℕ → ℕ → List Description → List ℕ
unused used at [] = []
unused used at (x ∷ more) = if is_unused used x then at ∷ unused used (suc at) more else unused used (suc at) more

-- the modules that may be the top, where the instances of the source name these modules: the one that has the name that
-- is asked for, or else all that no instance names
abbrev pub candidates : List ℕ → List Description → Option NameId → List ℕ
candidates used source (Some name) = option_to_list (first_module name.0 0 source)
candidates used source None = unused used 0 source

-- the place of a name among places
abbrev pub place_of : List (ℕ × ℕ) → ℕ → Option ℕ
place_of places name = lookup (λ key. name == key) places

-- the places are those of the first modules of their names
abbrev pub ArePlaces : List (ℕ × ℕ) → List Description → Type 0
ArePlaces places source = (name : ℕ) → place_of places name ≡ first_module name 0 source

-- the first of two that are there
abbrev pub first_of : Option ℕ → Option ℕ → Option ℕ
first_of None b = b
first_of (Some a) b = Some a

abbrev pub place_in : ℕ → Description → ℕ → Option ℕ
place_in name x at = if is_module_of name x then Some at else None

-- the places with that of a further description, where its name has none yet
abbrev pub Placed : List (ℕ × ℕ) → Description → ℕ → List (ℕ × ℕ) → Type 0
Placed old x at new = (name : ℕ) → place_of new name ≡ first_of (place_of old name) (place_in name x at)

-- the keys of a set are the names
abbrev pub AreKeys : List ℕ → List ℕ → Type 0
AreKeys keys names = (name : ℕ) → list_any (λ key. name == key) keys ≡ among name names
