-- What a world's calls do to its files, its streams and its two counts.
use Rattle.std.specs.Prelude.{◌≡◌, ◌⊎◌, ◌↔◌, ℕ, ◌+◌, ◌-◌, ◌^◌, ◌<◌, ◌≤◌, min, List, [], ◌∷◌, ◌++◌, length, take, drop, Option, Some, None, IfSome}
use Rattle.vs_world.specs.declared.world.Stream.{Stream}
use Rattle.vs_world.specs.declared.world.Stream.TheVariants.{Out, Errors, Calls, Vcd}

-- the files by their names
abbrev pub Files : Type 0
Files = List ℕ → Option (List ℕ)

-- the bytes written to each stream so far
pub record Written : Type 0 where
  pub out : List ℕ
  pub errors : List ℕ
  pub calls : List ℕ
  pub vcd : List ℕ

-- those of one stream
abbrev pub stream_bytes : Stream → Written → List ℕ
stream_bytes Out w = w.out
stream_bytes Errors w = w.errors
stream_bytes Calls w = w.calls
stream_bytes Vcd w = w.vcd

-- with more bytes at the end of one stream
abbrev pub appended : Stream → List ℕ → Written → Written
appended Out bytes w = record w { out = w.out ++ bytes }
appended Errors bytes w = record w { errors = w.errors ++ bytes }
appended Calls bytes w = record w { calls = w.calls ++ bytes }
appended Vcd bytes w = record w { vcd = w.vcd ++ bytes }

-- the created streams, with their files' names
abbrev pub Made : Type 0
Made = List (Stream × List ℕ)

abbrev pub IsMade : Stream → Made → Type 0
IsMade stream [] = ⊥
IsMade stream (m ∷ made) = (m.0 ≡ stream) ⊎ IsMade stream made

-- what a world tells: its files, what was written and created so far, how many of its calls failed, and how many reads
-- failed since there was no such file
pub record Told : Type 0 where
  pub files : Option Files
  pub written : Option Written
  pub made : Option Made
  pub faults : ℕ
  pub absent : ℕ

-- a stream that may be written to, where it is told what was created
abbrev pub IsOpen : Option Made → Stream → Type 0
IsOpen told Out = Unit {0}
IsOpen told Errors = Unit {0}
IsOpen told Calls = IfSome told (IsMade Calls)
IsOpen told Vcd = IfSome told (IsMade Vcd)

abbrev pub IsCreatable : Option Made → Stream → Type 0
IsCreatable told Out = ⊥
IsCreatable told Errors = ⊥
IsCreatable told Calls = IfSome told (λ made. ¬ IsMade Calls made)
IsCreatable told Vcd = IfSome told (λ made. ¬ IsMade Vcd made)

-- a count rose in a call: it became greater, or stands at 2^64 - 1, where it stays
abbrev pub Rose : ℕ → ℕ → Type 0
Rose before now = min (before + 1) (2 ^ 64 - 1) ≤ now

-- no such file, where the files are told
abbrev pub IsMissing : Option Files → List ℕ → Type 0
IsMissing told name = IfSome told (λ files. files name ≡ None)

-- these are the file's bytes, where the files are told
abbrev pub IsWhole : Option Files → List ℕ → List ℕ → Type 0
IsWhole told name bytes = IfSome told (λ files. files name ≡ Some bytes)

-- the file is there and has more bytes than these many, where the files are told
abbrev pub IsLonger : Option Files → List ℕ → ℕ → Type 0
IsLonger told name limit = IfSome told (λ files. (bytes : List ℕ) × (files name ≡ Some bytes) × (limit < length bytes))

-- what a read of n bytes at a place gave: those of the file, and none exactly at or past its end
pub record ReadsAt (files : Files) (name : List ℕ) (at n : ℕ) (buf : List ℕ) : Type 0 where
  pub bytes : List ℕ
  pub named : files name ≡ Some bytes
  pub read : take n buf ≡ take n (drop at bytes)
  pub within : n ≤ length bytes - at
  pub end : (n ≡ 0) ↔ (length bytes ≤ at)

-- why a read of this name failed
abbrev pub ReadCause : List ℕ → Told → Told → Type 0
ReadCause name before now = Rose before.faults now.faults ⊎ (Rose before.absent now.absent × IsMissing before.files name)

-- a call that only reads the file of this name: the counts did not fall, that of missing files became greater only for a
-- missing file, and the rest is as it was
pub record OnlyReads (name : List ℕ) (before now : Told) : Type 0 where
  pub faults_later : before.faults ≤ now.faults
  pub absent_later : before.absent ≤ now.absent
  pub only_missing : before.absent < now.absent → IsMissing before.files name
  pub files_same : now.files ≡ before.files
  pub written_same : now.written ≡ before.written
  pub made_same : now.made ≡ before.made

-- a call that only writes to streams
pub record OnlyWrites (before now : Told) : Type 0 where
  pub later : before.faults ≤ now.faults
  pub absent_same : now.absent ≡ before.absent
  pub files_same : now.files ≡ before.files
  pub made_same : now.made ≡ before.made

-- a call that only creates files
pub record OnlyCreates (before now : Told) : Type 0 where
  pub later : before.faults ≤ now.faults
  pub absent_same : now.absent ≡ before.absent
  pub files_same : now.files ≡ before.files
  pub written_same : now.written ≡ before.written
