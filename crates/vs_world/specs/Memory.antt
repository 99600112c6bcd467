-- A world in memory: what each of its calls answers, and what the call leaves.
use Rattle.std.specs.Prelude.{ℕ, ◌+◌, ◌-◌, ◌^◌, min, Bool, ◌==◌, ◌&&◌, ◌||◌, nat_lt, is_none, if◌then◌else◌, List, [], ◌∷◌, ◌++◌, length, take, find, replicate, slice_index, slice_set}
use Rattle.std.specs.List.{list_any}
use Rattle.std.specs.Option.{option_map}
use Rattle.std.specs.Str.{bytes_eq}
use Rattle.vs_world.specs.declared.memory.MemFile.{MemFile}
use Rattle.vs_world.specs.declared.memory.Planned.{Planned}
use Rattle.vs_world.specs.declared.memory.Op.{Op}
use Rattle.vs_world.specs.declared.memory.Op.TheVariants.{Read, Create, Write}
use Rattle.vs_world.specs.declared.world.Stream.{Stream}
use Rattle.vs_world.specs.declared.world.Stream.TheVariants.{Out, Errors, Calls, Vcd}
use Rattle.vs_world.specs.Outside.{Files, Written, Made, stream_bytes, appended}

pub record Memory : Type 0 where
  pub files : Files
  -- how many bytes one call moves at most
  pub most : ℕ
  -- how many bytes each stream holds at most, and how long a created name is at most
  pub room : ℕ
  pub fails : List Planned
  -- how many calls of each kind there were, by the kind's place
  pub asked : List ℕ
  pub written : Written
  pub made : Made
  pub faults : ℕ
  pub absent : ℕ

-- the first file of that name
abbrev pub file_of : List MemFile → Files
file_of files name = option_map (λ f. f.bytes.items) (find (λ f. bytes_eq f.name.items name) files)

-- nothing was asked yet
abbrev pub fresh : List MemFile → ℕ → ℕ → List Planned → Memory
fresh files most room fails = record {
  files = file_of files;
  most = most;
  room = room;
  fails = fails;
  asked = replicate 6 0;
  written = record { out = []; errors = []; calls = []; vcd = [] };
  made = [];
  faults = 0;
  absent = 0;
}

-- the place of a kind of call; the writes of each stream are a kind of their own
abbrev pub kind_of : Op → ℕ
kind_of Read = 0
kind_of Create = 1
kind_of (Write Out) = 2
kind_of (Write Errors) = 3
kind_of (Write Calls) = 4
kind_of (Write Vcd) = 5

-- it is planned that the call of this kind after so many calls of the kind fails
abbrev pub is_for : Op → ℕ → Planned → Bool
is_for op asked plan = (kind_of plan.op == kind_of op) && (plan.nth == asked + 1)

-- the next call of this kind is planned to fail
abbrev pub is_planned : Op → Memory → Bool
is_planned op m = list_any (is_for op (slice_index m.asked (kind_of op))) m.fails

-- a count goes up to 2^64 - 1 and stands still there, where no call is planned to fail
abbrev pub one_more : ℕ → ℕ
one_more n = min (n + 1) (2 ^ 64 - 1)

-- a call of this kind was made
abbrev pub called : Op → Memory → Memory
called op m = record m { asked = slice_set m.asked (kind_of op) (one_more (slice_index m.asked (kind_of op))) }

-- it failed, and not for a missing file
abbrev pub faulted : Memory → Memory
faulted m = record m { faults = one_more m.faults }

-- it was a read of a missing file
abbrev pub missed : Memory → Memory
missed m = record m { absent = one_more m.absent }

-- ---- reading

-- a read fails where that is planned, and where there is no such file
abbrev pub is_read_failing : List ℕ → Memory → Bool
is_read_failing name m = is_planned Read m || is_none (m.files name)

-- how many bytes a read of a file moves, from a place on, into a buffer of that size
abbrev pub read_size : List ℕ → ℕ → ℕ → Memory → ℕ
read_size bytes at size m = min (min size m.most) (length bytes - at)

-- a missing file raises `absent` alone
abbrev pub after_read : List ℕ → Memory → Memory
after_read name m =
    let now = called Read m in
    if is_planned Read m then faulted now else if is_none (m.files name) then missed now else now

-- ---- writing

abbrev pub room_left : Stream → Memory → ℕ
room_left stream m = m.room - length (stream_bytes stream m.written)

-- a write fails where that is planned, and where there is no room left
abbrev pub is_write_failing : Stream → Memory → Bool
is_write_failing stream m = is_planned (Write stream) m || (room_left stream m == 0)

-- how many of so many bytes a write moves
abbrev pub write_size : Stream → ℕ → Memory → ℕ
write_size stream size m = min (min size m.most) (room_left stream m)

abbrev pub after_write : Stream → List ℕ → Memory → Memory
after_write stream bytes m =
    let now = called (Write stream) m in
    if is_write_failing stream m then faulted now else record now { written = appended stream (take (write_size stream (length bytes) m) bytes) m.written }

-- ---- creating

-- a creation fails where that is planned, and where the name is longer than the room
abbrev pub is_create_failing : List ℕ → Memory → Bool
is_create_failing name m = is_planned Create m || nat_lt m.room (length name)

abbrev pub after_create : Stream → List ℕ → Memory → Memory
after_create stream name m =
    let now = called Create m in
    if is_create_failing name m then faulted now else record now { made = m.made ++ (stream, name) ∷ [] }
