-- What statuses say of a world that was written to: one that is told, and had nothing in it before.
use Rattle.std.proofs.Common.{◌≡◌, ℕ, List, [], ◌∷◌, Some, refl, inl, arith}
use Rattle.std.specs.Prelude.{codes}
use Rattle.vs_world.specs.declared.world.Stream.TheVariants.{Out, Vcd}
use Rattle.vs_world.specs.Outside.{Written, Made, Told}
use Rattle.vs_world.specs.Entries.{Entry, Creates, Writes}
use Rattle.run_status.specs.declared.status.Status.TheVariants as status
use Rattle.run_status.specs.Lines.{entry_text}
use Rattle.run_status.specs.Answer.{Refused, Texts, Stopped, error_line, OfEntry, Ends}

abbrev written : List ℕ → List ℕ → List ℕ → Written
written out errors vcd = record { out = out; errors = errors; calls = []; vcd = vcd }

-- after so many faults
abbrev world : Written → Made → ℕ → Told
world w made faults = record { files = Some (λ name. Some []); written = Some w; made = Some made; faults = faults; absent = 0 }

abbrev empty : Told
empty = world (written [] [] []) [] 0

-- a waveform is created, its header is written, and then a line
abbrev entries : List Entry
entries = Creates Vcd (codes "w.vcd") ∷ Writes Vcd (codes "header\n") ∷ Writes Out (codes "0 y=1\n") ∷ []

abbrev made : Made
made = (Vcd, codes "w.vcd") ∷ []

not_there : entry_text (Creates Vcd (codes "w.vcd")) ≡ codes "cannot create w.vcd"
not_there = refl

line : error_line (codes "usage") ≡ codes "vsim: usage\n"
line = refl

-- all is there
done : Ends status.Done [] (Texts entries) empty (world (written (codes "0 y=1\n") [] (codes "header\n")) made 0)
done = record { entries = entries; answer = refl; left = record { written = refl; made = refl; files = refl; faults = omega arith; absent = omega arith } }

-- nothing is there but the line
refused : Ends status.Refused [] (Refused (codes "usage")) empty (world (written [] (codes "vsim: usage\n") []) [] 0)
refused = record { line = codes "usage"; answer = refl; left = record { written = refl; made = refl; files = refl; faults = omega arith; absent = omega arith } }

-- the line of the eval before stands on standard output, and then the run stopped
stopped : Ends status.Refused [] (Stopped entries (codes "eval 1: not converged")) empty (world (written (codes "0 y=1\n") (codes "vsim: eval 1: not converged\n") (codes "header\n")) made 0)
stopped = record { line = codes "eval 1: not converged"; answer = refl; left = record { written = refl; made = refl; files = refl; faults = omega arith; absent = omega arith } }

-- the line broke after three bytes of it, and that is told
broken : Ends status.WorldFault [] (Texts entries) empty (world (written (codes "0 y") (codes "vsim: cannot write out\n") (codes "header\n")) made 1)
broken = record {
  cause = inl (omega arith);
  part = Creates Vcd (codes "w.vcd") ∷ Writes Vcd (codes "header\n") ∷ Writes Out (codes "0 y") ∷ [];
  text = codes "cannot write out";
  line = OfEntry (Creates Vcd (codes "w.vcd") ∷ Writes Vcd (codes "header\n") ∷ []) (Writes Out (codes "0 y=1\n")) [] 3 refl (omega arith) refl refl;
  errors = codes "vsim: cannot write out\n";
  said = ([], refl);
  unread = λ name is. absurd (cc is);
  left = record { written = refl; made = refl; files = refl; faults = omega arith; absent = omega arith };
}

-- the waveform was not created, and the line that tells it broke too
not_created : Ends status.WorldFault [] (Texts entries) empty (world (written [] (codes "vsim: cannot") []) [] 2)
not_created = record {
  cause = inl (omega arith);
  part = [];
  text = codes "cannot create w.vcd";
  line = OfEntry [] (Creates Vcd (codes "w.vcd")) (Writes Vcd (codes "header\n") ∷ Writes Out (codes "0 y=1\n") ∷ []) 0 refl refl refl refl;
  errors = codes "vsim: cannot";
  said = (codes " create w.vcd\n", refl);
  unread = λ name is. absurd (cc is);
  left = record { written = refl; made = refl; files = refl; faults = omega arith; absent = omega arith };
}
