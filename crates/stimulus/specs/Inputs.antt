-- The table of the inputs' names, each with the place of its first input.
use Rattle.std.specs.Prelude.{◌≡◌, ℕ, List, [], ◌∷◌, ◌++◌, Option, is_some, if◌then◌else◌}
use Rattle.std.specs.Map.{lookup}
use Rattle.std.specs.Str.{bytes_eq}
use Rattle.stimulus.specs.StimulusText.{Text}
use Rattle.stimulus.specs.Stimulus.{StimPort, place_of}

abbrev pub Entries : Type 0
Entries = List (Text × ℕ)

abbrev pub place_in : Entries → Text → Option ℕ
place_in table name = lookup (λ t. bytes_eq name t) table

-- the table gives each name the place of the first input of that name
abbrev pub IsTable : Entries → List StimPort → Type 0
IsTable table ports = (name : Text) → place_in table name ≡ place_of ports name

-- a name that is there keeps its place
abbrev pub with_name : Entries → Text → ℕ → Entries
with_name table name place = if is_some (place_in table name) then table else table ++ (name, place) ∷ []

-- a port at a place is put into the table where it is an input
abbrev pub with_port : Entries → StimPort → ℕ → Entries
with_port table p place = if p.input then with_name table p.name place else table
