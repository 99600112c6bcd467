-- Which world in memory a `MemWorld` is.
use Rattle.std.specs.Prelude.{ℕ, List, [], ◌∷◌, Some}
use Rattle.vs_world.specs.declared.memory.MemWorld.{MemWorld}
use Rattle.vs_world.specs.declared.memory.Order.{Order}
use Rattle.vs_world.specs.declared.memory.Order.TheVariants.{Neither, OnlyCalls, OnlyVcd, CallsThenVcd, VcdThenCalls}
use Rattle.vs_world.specs.declared.world.Stream.TheVariants.{Calls, Vcd}
use Rattle.vs_world.specs.Outside.{Made, Told}
use Rattle.vs_world.specs.Memory.{Memory, file_of}

-- the created pairs, by the order of creation and the two names
abbrev pub made_of : Order → List ℕ → List ℕ → Made
made_of Neither calls vcd = []
made_of OnlyCalls calls vcd = (Calls, calls) ∷ []
made_of OnlyVcd calls vcd = (Vcd, vcd) ∷ []
made_of CallsThenVcd calls vcd = (Calls, calls) ∷ (Vcd, vcd) ∷ []
made_of VcdThenCalls calls vcd = (Vcd, vcd) ∷ (Calls, calls) ∷ []

abbrev pub memory_of : MemWorld → Memory
memory_of w = record {
  files = file_of w.files.items;
  most = w.most;
  room = w.room;
  fails = w.fails.items;
  asked = w.asked;
  written = record { out = w.out.items; errors = w.errors.items; calls = w.calls.items; vcd = w.vcd.items };
  made = made_of w.order w.calls_name.items w.vcd_name.items;
  faults = w.faults;
  absent = w.absent;
}

-- it tells all
abbrev pub told_by : Memory → Told
told_by m = record { files = Some m.files; written = Some m.written; made = Some m.made; faults = m.faults; absent = m.absent }
