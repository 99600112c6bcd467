-- How files are read, one and then the next.
use Rattle.std.proofs.Common.{◌≡◌, ◌⊎◌, ◌≤◌, ◌<◌, ◌+◌, ℕ, List, [], ◌∷◌, ◌++◌, length, drop, get_or, Option, Some, None, cond, refl, sym, ap, ◌∙◌, inl, inr, append_assoc}
use Rattle.std.specs.Prelude.{IfSome}
use Rattle.std.proofs.lemmas.Bool.{le-leb, lt-leb}
use Rattle.std.proofs.lemmas.List.{drop_more}
use Rattle.vs_world.specs.Outside.{Files, Told, IsMissing, IsWhole, IsLonger, ReadCause, Rose}
use Rattle.vs_world.specs.CountLaws.{rose_between}
use Rattle.vs_world.specs.declared.whole.ReadFault.{ReadFault}
use Rattle.vs_world.specs.declared.whole.ReadFault.TheVariants as fault
use Rattle.run_status.specs.Lines.{Text}
use Rattle.run_status.specs.Answer.{Leaves}
use Rattle.run_input.specs.Input.{Bytes, file_limit, NotRead, Missing, Long, short_or, file_read, with_rest, all_read, WhyNot}

-- ---- one file, as a read tells it

short_whole : (name : Text) (bytes : Bytes) → length bytes ≤ file_limit → short_or name bytes ≡ inr bytes
short_whole name bytes h = ap (λ b. cond b (inr bytes) (inl (Long name))) (le-leb (length bytes) file_limit h)

short_long : (name : Text) (bytes : Bytes) → file_limit < length bytes → short_or name bytes ≡ inl (Long name)
short_long name bytes h = ap (λ b. cond b (inr bytes) (inl (Long name))) (lt-leb (length bytes) file_limit h)

module _ (name : Text) where
  -- it was read whole
  pub read_whole : (told : Option Files) (bytes : Bytes) → IsWhole told name bytes → length bytes ≤ file_limit → IfSome told (λ files. file_read name (files name) ≡ inr bytes)
  read_whole None bytes is few = tt
  read_whole (Some files) bytes is few = ap (file_read name) is ∙ short_whole name bytes few

  -- it is too long
  pub read_long : (told : Option Files) → IsLonger told name file_limit → IfSome told (λ files. file_read name (files name) ≡ inl (Long name))
  read_long None is = tt
  read_long (Some files) is = ap (file_read name) is.1 ∙ short_long name is.0 is.2

  -- it is not there
  pub read_missing : (told : Option Files) → IsMissing told name → IfSome told (λ files. file_read name (files name) ≡ inl (Missing name))
  read_missing None is = tt
  read_missing (Some files) is = ap (file_read name) is

  -- why one read failed
  pub why_not : (f : ReadFault) (a b : Told) → (f ≡ fault.World → ReadCause name a b) → (f ≡ fault.TooLong → IsLonger a.files name file_limit) → WhyNot (λ not. IfSome a.files (λ files. file_read name (files name) ≡ inl not)) f name a b
  why_not fault.World a b cause long = by (cause refl)
    where
      by : ReadCause name a b → Rose a.faults b.faults ⊎ (Rose a.absent b.absent × IfSome a.files (λ files. file_read name (files name) ≡ inl (Missing name)))
      by (inl rose) = inl rose
      by (inr missing) = inr (missing.0, read_missing a.files missing.1)
  why_not fault.TooLong a b cause long = read_long a.files (long refl)
  why_not fault.NoMemory a b cause long = tt

-- what holds of a file that is not read, from an earlier moment on and by another cause
pub why_later : (P Q : NotRead → Type 0) (f : ReadFault) (name : Text) (a b c : Told) → ((not : NotRead) → P not → Q not) → Leaves [] a b → WhyNot P f name b c → WhyNot Q f name a c
why_later P Q fault.World name a b c into left (inl rose) = inl (rose_between a.faults b.faults c.faults left.faults rose)
why_later P Q fault.World name a b c into left (inr missing) = inr (rose_between a.absent b.absent c.absent left.absent missing.0, into (Missing name) missing.1)
why_later P Q fault.TooLong name a b c into left long = into (Long name) long
why_later P Q fault.NoMemory name a b c into left wants = tt

-- ---- one file after another

-- what was read before comes first
abbrev pub before : List Bytes → NotRead ⊎ List Bytes → NotRead ⊎ List Bytes
before done (inl not) = inl not
before done (inr more) = inr (done ++ more)

before_one : (done : List Bytes) (bytes : Bytes) (rest : NotRead ⊎ List Bytes) → before done (with_rest (inr bytes) rest) ≡ before (done ++ bytes ∷ []) rest
before_one done bytes (inl not) = refl
before_one done bytes (inr more) = ap inr (sym (append_assoc done (bytes ∷ []) more))

-- so many files were read, and nothing of it changes what is read of all
abbrev pub ReadsOn : Option Files → List Text → ℕ → List Bytes → Type 0
ReadsOn told names at done = IfSome told (λ files. before done (all_read files (drop at names)) ≡ all_read files names)

module _ (names : List Text) (at : ℕ) (done : List Bytes) (within : at < length names) where
  abbrev name : Text
  name = get_or names at []

  at_name : (files : Files) → before done (all_read files (drop at names)) ≡ all_read files names → before done (with_rest (file_read name (files name)) (all_read files (drop (at + 1) names))) ≡ all_read files names
  at_name files is = ap (λ (l : List Text). before done (all_read files l)) (sym (drop_more names at [] within)) ∙ is

  -- it was read
  pub read_on : (told : Option Files) (bytes : Bytes) → ReadsOn told names at done → IfSome told (λ files. file_read name (files name) ≡ inr bytes) → ReadsOn told names (at + 1) (done ++ bytes ∷ [])
  read_on None bytes is read = tt
  read_on (Some files) bytes is read =
      let rest = all_read files (drop (at + 1) names) in
      sym (before_one done bytes rest) ∙ ap (λ (r : NotRead ⊎ Bytes). before done (with_rest r rest)) (sym read) ∙ at_name files is

  -- it was not
  pub read_not : (told : Option Files) → ReadsOn told names at done → (not : NotRead) → IfSome told (λ files. file_read name (files name) ≡ inl not) → IfSome told (λ files. all_read files names ≡ inl not)
  read_not None is not read = tt
  read_not (Some files) is not read = sym (at_name files is) ∙ ap (λ (r : NotRead ⊎ Bytes). before done (with_rest r (all_read files (drop (at + 1) names)))) read
