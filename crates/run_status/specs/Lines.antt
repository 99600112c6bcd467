-- The texts of the lines on standard error that name an entry of a run, a file or several places.
use Rattle.std.specs.Prelude.{ℕ, List, [], ◌++◌, get_or, codes, decimal}
use Rattle.std.specs.List.{flat_map}
use Rattle.vs_base.specs.declared.origin.Origin.{Origin}
use Rattle.vs_world.specs.declared.world.Stream.{Stream}
use Rattle.vs_world.specs.declared.world.Stream.TheVariants.{Out, Errors, Calls, Vcd}
use Rattle.vs_world.specs.Entries.{Entry, Creates, Writes}

abbrev pub Text : Type 0
Text = List ℕ

-- what a stream is called
abbrev pub stream_name : Stream → Text
stream_name Out = codes "out"
stream_name Errors = codes "errors"
stream_name Calls = codes "calls"
stream_name Vcd = codes "vcd"

abbrev pub not_read : Text → Text
not_read name = codes "cannot read " ++ name

abbrev pub not_created : Text → Text
not_created name = codes "cannot create " ++ name

abbrev pub not_written : Stream → Text
not_written stream = codes "cannot write " ++ stream_name stream

-- an entry at which the world failed
abbrev pub entry_text : Entry → Text
entry_text (Creates stream name) = not_created name
entry_text (Writes stream bytes) = not_written stream

abbrev pub out_of_memory : Text
out_of_memory = codes "out of memory"

-- a text about a place in a file, whose line and column are spelled
abbrev pub placed_text : Text → Text → Text → Text → Text
placed_text file line col text = file ++ codes ":" ++ line ++ codes ":" ++ col ++ codes ": " ++ text

-- a place in a file of this name, with a blank before it
abbrev pub listed_place : Text → Origin → Text
listed_place file at = codes " " ++ file ++ codes ":" ++ decimal at.line ++ codes ":" ++ decimal at.col

-- places one after another; a place has the number of its file
abbrev pub listed_places : List Text → List Origin → Text
listed_places files places = flat_map (λ at. listed_place (get_or files at.file []) at) places

-- a text, a colon and places
abbrev pub listed_text : List Text → Text → List Origin → Text
listed_text files text places = text ++ codes ":" ++ listed_places files places
