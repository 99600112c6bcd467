-- What is read of the files that a command names, one after another.
use Rattle.std.specs.Prelude.{◌≡◌, ◌⊎◌, ◌<◌, ℕ, List, [], ◌∷◌, length, get_or, Option, Some, None, IfSome, if◌then◌else◌, nat_le}
use Rattle.std.proofs.Common.{inl, inr}
use Rattle.vs_world.specs.Outside.{Files, Told, Rose}
use Rattle.vs_world.specs.declared.whole.ReadFault.{ReadFault}
use Rattle.vs_world.specs.declared.whole.ReadFault.TheVariants as fault
use Rattle.run_status.specs.Lines.{Text}
use Rattle.run_input.specs.declared.files.Stop.{Stop}

abbrev pub Bytes : Type 0
Bytes = List ℕ

-- the most bytes that a file may have
abbrev pub file_limit : ℕ
file_limit = 4194304

-- a file of this name that is not read: it is not there, or it is too long
pub data NotRead : Type 0 where
  Missing : Text → NotRead
  Long : Text → NotRead

-- what is read of a file that is there
abbrev pub short_or : Text → Bytes → NotRead ⊎ Bytes
short_or name bytes = if nat_le (length bytes) file_limit then inr bytes else inl (Long name)

abbrev pub file_read : Text → Option Bytes → NotRead ⊎ Bytes
file_read name None = inl (Missing name)
file_read name (Some bytes) = short_or name bytes

abbrev pub with_rest : NotRead ⊎ Bytes → NotRead ⊎ List Bytes → NotRead ⊎ List Bytes
with_rest (inl not) rest = inl not
with_rest (inr bytes) (inl not) = inl not
with_rest (inr bytes) (inr more) = inr (bytes ∷ more)

-- the bytes of all files, or the first that is not there or is too long
abbrev pub all_read : Files → List Text → NotRead ⊎ List Bytes
all_read files [] = inr []
all_read files (name ∷ names) = with_rest (file_read name (files name)) (all_read files names)

-- ---- as the code reads them

-- why a file of this name was not read, where the files say that it is not; or faults rose, or memory ran out
abbrev pub WhyNot : (NotRead → Type 0) → ReadFault → Text → Told → Told → Type 0
WhyNot Is fault.World name before now = Rose before.faults now.faults ⊎ (Rose before.absent now.absent × Is (Missing name))
WhyNot Is fault.TooLong name before now = Is (Long name)
WhyNot Is fault.NoMemory name before now = Unit {0}

-- why the files were not all read
pub record Stops (s : Stop) (names : List Text) (before now : Told) : Type 0 where
  pub within : s.at < length names
  pub why : WhyNot (λ not. IfSome before.files (λ files. all_read files names ≡ inl not)) s.fault (get_or names s.at []) before now
