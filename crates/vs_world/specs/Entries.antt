-- A list of what a run does to the world, and how far it came.
use Rattle.std.specs.Prelude.{◌≡◌, ℕ, ◌<◌, ◌≤◌, Bool, true, false, List, [], ◌∷◌, ◌++◌, length, take}
use Rattle.std.specs.Option.{option_map}
use Rattle.vs_world.specs.declared.world.Stream.{Stream}
use Rattle.vs_world.specs.declared.world.Stream.TheVariants.{Out, Errors, Calls, Vcd}
use Rattle.vs_world.specs.Outside.{Written, Made, Told, appended, Rose}

-- the file of a stream is created by a name, or bytes are written to a stream
pub data Entry : Type 0 where
  Creates : Stream → List ℕ → Entry
  Writes : Stream → List ℕ → Entry

abbrev pub stream_of : Entry → Stream
stream_of (Creates stream name) = stream
stream_of (Writes stream bytes) = stream

-- it is not on standard error
abbrev pub is_besides_errors : Stream → Bool
is_besides_errors Out = true
is_besides_errors Errors = false
is_besides_errors Calls = true
is_besides_errors Vcd = true

abbrev pub is_quiet : Entry → Bool
is_quiet entry = is_besides_errors (stream_of entry)

-- what was written once these entries are done
abbrev pub written_by : List Entry → Written → Written
written_by [] w = w
written_by (Creates stream name ∷ entries) w = written_by entries w
written_by (Writes stream bytes ∷ entries) w = written_by entries (appended stream bytes w)

-- what was created once these entries are done
abbrev pub made_by : List Entry → Made → Made
made_by [] made = made
made_by (Creates stream name ∷ entries) made = made_by entries (made ++ (stream, name) ∷ [])
made_by (Writes stream bytes ∷ entries) made = made_by entries made

-- exactly these entries were done, in order
pub record Did (entries : List Entry) (before now : Told) : Type 0 where
  pub written : now.written ≡ option_map (written_by entries) before.written
  pub made : now.made ≡ option_map (made_by entries) before.made
  pub files : now.files ≡ before.files
  pub absent : now.absent ≡ before.absent
  pub later : before.faults ≤ now.faults

-- so many bytes are a part of an entry: fewer than it writes, and none of a creation
abbrev pub IsPart : ℕ → Entry → Type 0
IsPart bytes (Creates stream name) = bytes ≡ 0
IsPart bytes (Writes stream text) = bytes < length text

-- the first bytes of an entry; of a creation nothing
abbrev pub front : ℕ → Entry → List Entry
front bytes (Creates stream name) = []
front bytes (Writes stream text) = Writes stream (take bytes text) ∷ []

-- the world failed at an entry: the entries before it, so many, were done whole; of this one, which is on that stream, exactly the
-- first bytes were written; and nothing else was done
pub record Broke (entries : List Entry) (stream : Stream) (pieces bytes : ℕ) (before now : Told) : Type 0 where
  pub done : List Entry
  pub entry : Entry
  pub rest : List Entry
  pub whole : done ++ entry ∷ rest ≡ entries
  pub count : length done ≡ pieces
  pub on : stream_of entry ≡ stream
  pub part : IsPart bytes entry
  pub did : Did (done ++ front bytes entry) before now
  pub rose : Rose before.faults now.faults
