-- A read of a world in memory, by what it finds.
use Rattle.std.proofs.Common.{◌≡◌, ℕ, ◌-◌, ◌<◌, ◌≤◌, min, Bool, true, false, List, length, take, drop, Option, Some, None, sym, ap, ◌∙◌, inr, arith}
use Rattle.std.specs.Prelude.{◌||◌, is_none, if◌then◌else◌}
use Rattle.vs_world.specs.declared.memory.Op.TheVariants.{Read}
use Rattle.vs_world.specs.Outside.{ReadsAt, ReadCause, OnlyReads}
use Rattle.vs_world.specs.InMemory.{told_by}
use Rattle.vs_world.specs.Memory.{Memory, is_planned, called, faulted, missed, is_read_failing, read_size, after_read}

-- the read found the file
pub record Found (m m1 : Memory) (name bytes : List ℕ) : Type 0 where
  pub passes : is_read_failing name m ≡ false
  pub after : m1 ≡ after_read name m
  pub named : m.files name ≡ Some bytes

pub found : (m m1 : Memory) (name bytes : List ℕ) → is_planned Read m ≡ false → m1 ≡ called Read m → m1.files name ≡ Some bytes → Found m m1 name bytes
found m m1 name bytes pass was there =
    let named : m.files name ≡ Some bytes = sym (ap (λ (x : Memory). x.files name) was) ∙ there in
    record {
      passes = ap (λ (b : Bool). b || is_none (m.files name)) pass ∙ ap is_none named;
      after =
          was
          ∙ sym (ap (λ (b : Bool). if b then faulted (called Read m) else if is_none (m.files name) then missed (called Read m) else called Read m) pass
          ∙ ap (λ (f : Option (List ℕ)). if is_none f then missed (called Read m) else called Read m) named);
      named = named;
    }

-- the calls counted before it do not change how many bytes it moves
pub moves : (m m1 : Memory) (bytes : List ℕ) (at size n : ℕ) → m1 ≡ called Read m → n ≡ min (min size m1.most) (length bytes - at) → n ≡ read_size bytes at size m
moves m m1 bytes at size n was is = is ∙ ap (λ (x : Memory). min (min size x.most) (length bytes - at)) was

pub reads_at : (m : Memory) (name bytes buf : List ℕ) (at size n : ℕ) → m.files name ≡ Some bytes → n ≡ read_size bytes at size m → 0 < size → 1 ≤ m.most → take n buf ≡ take n (drop at bytes) → ReadsAt m.files name at n buf
reads_at m name bytes buf at size n named is some most read = record {
  bytes = bytes;
  named = named;
  read = read;
  within = omega (arith, is);
  end = (λ none. omega (arith, is, none, some, most), λ past. omega (arith, is, past));
}

-- the read found no file
pub record Missed (m m1 : Memory) (name : List ℕ) : Type 0 where
  pub fails : is_read_failing name m ≡ true
  pub after : missed m1 ≡ after_read name m
  pub missing : m.files name ≡ None

pub not_found : (m m1 : Memory) (name : List ℕ) → is_planned Read m ≡ false → m1 ≡ called Read m → m1.files name ≡ None → Missed m m1 name
not_found m m1 name pass was none =
    let missing : m.files name ≡ None = sym (ap (λ (x : Memory). x.files name) was) ∙ none in
    record {
      fails = ap (λ (b : Bool). b || is_none (m.files name)) pass ∙ ap is_none missing;
      after =
          ap missed was
          ∙ sym (ap (λ (b : Bool). if b then faulted (called Read m) else if is_none (m.files name) then missed (called Read m) else called Read m) pass
          ∙ ap (λ (f : Option (List ℕ)). if is_none f then missed (called Read m) else called Read m) missing);
      missing = missing;
    }

pub missed_cause : (m m2 : Memory) (name : List ℕ) → m2 ≡ missed (called Read m) → m.files name ≡ None → ReadCause name (told_by m) (told_by m2)
missed_cause m m2 name was missing = let absent = ap (λ (x : Memory). x.absent) was in inr (omega (arith, absent), missing)

pub missed_rest : (m m2 : Memory) (name : List ℕ) → m2 ≡ missed (called Read m) → m.absent ≤ m2.absent → m.files name ≡ None → OnlyReads name (told_by m) (told_by m2)
missed_rest m m2 name was later missing = let faults = ap (λ (x : Memory). x.faults) was in record {
  faults_later = omega (arith, faults);
  absent_later = later;
  only_missing = λ _. missing;
  files_same = ap (λ (x : Memory). Some x.files) was;
  written_same = ap (λ (x : Memory). Some x.written) was;
  made_same = ap (λ (x : Memory). Some x.made) was;
}
