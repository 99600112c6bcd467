-- What a command is answered, and what each status says of what was done to the world.
use Rattle.std.specs.Prelude.{◌≡◌, ◌⊎◌, ◌≤◌, ℕ, true, List, [], ◌∷◌, ◌++◌, Option, Some, None, codes, Contains}
use Rattle.std.specs.Option.{option_map}
use Rattle.std.specs.List.{list_all}
use Rattle.vs_world.specs.declared.world.Stream.TheVariants.{Errors}
use Rattle.vs_world.specs.Outside.{Told, Rose}
use Rattle.vs_world.specs.Entries.{Entry, Writes, is_quiet, written_by, made_by, Did, IsPart, front}
use Rattle.run_status.specs.declared.status.Status.{Status}
use Rattle.run_status.specs.declared.status.Status.TheVariants as status
use Rattle.run_status.specs.Written.{IsPrefix}
use Rattle.run_status.specs.Lines.{Text, not_read, entry_text, out_of_memory}

abbrev pub exit_code : Status → ℕ
exit_code status.Done = 0
exit_code status.Refused = 1
exit_code status.WorldFault = 2
exit_code status.NoMemory = 3

-- ---- the answer

-- a command is refused by a line; or a named file is not there; or entries are done; or entries are done and then it stops by a line
pub data Answer : Type 0 where
  Refused : Text → Answer
  Unread : Text → Answer
  Texts : List Entry → Answer
  Stopped : List Entry → Text → Answer

-- what is done to the world, in order, besides standard error
abbrev pub entries_of : Answer → List Entry
entries_of (Refused line) = []
entries_of (Unread name) = []
entries_of (Texts entries) = entries
entries_of (Stopped entries line) = entries

-- the line by which it is refused
abbrev pub refusal_of : Answer → Option Text
refusal_of (Refused line) = Some line
refusal_of (Unread name) = None
refusal_of (Texts entries) = None
refusal_of (Stopped entries line) = Some line

-- no entry is on standard error
abbrev pub AreQuiet : List Entry → Type 0
AreQuiet entries = list_all is_quiet entries ≡ true

-- ---- the line on standard error

abbrev pub error_line : Text → List ℕ
error_line text = codes "vsim: " ++ text ++ codes "\n"

-- bytes on standard error, as an entry
abbrev pub on_errors : List ℕ → List Entry
on_errors bytes = Writes Errors bytes ∷ []

-- a front of the line was written and nothing else was done, since faults rose
pub record CutShort (text : Text) (before now : Told) : Type 0 where
  pub part : List ℕ
  pub front : IsPrefix part (error_line text)
  pub did : Did (on_errors part) before now
  pub rose : Rose before.faults now.faults

-- the line was written whole, or a front of it where faults rose; nothing else was done
abbrev pub Tells : Text → Told → Told → Type 0
Tells text before now = Did (on_errors (error_line text)) before now ⊎ CutShort text before now

-- a refusal whose line is whole, or a world fault
abbrev pub Refuses : Status → Text → Told → Told → Type 0
Refuses s text before now = ((s ≡ status.Refused) × Did (on_errors (error_line text)) before now) ⊎ ((s ≡ status.WorldFault) × CutShort text before now)

-- why a command ends before all is done: it is refused by a line, the world failed and a line tells at what, or memory ran out
pub data Ending : Type 0 where
  Refusing : Text → Ending
  Failing : Text → Ending
  Wanting : Ending

-- the status and the line
abbrev pub EndsBy : Status → Ending → Told → Told → Type 0
EndsBy s (Refusing line) before now = Refuses s line before now
EndsBy s (Failing line) before now = (s ≡ status.WorldFault) × Tells line before now
EndsBy s Wanting before now = (s ≡ status.NoMemory) × Tells out_of_memory before now

-- ---- what each status says

-- exactly these entries were done, in order, and files may have been read
pub record Leaves (entries : List Entry) (before now : Told) : Type 0 where
  pub written : now.written ≡ option_map (written_by entries) before.written
  pub made : now.made ≡ option_map (made_by entries) before.made
  pub files : now.files ≡ before.files
  pub faults : before.faults ≤ now.faults
  pub absent : before.absent ≤ now.absent

-- all entries were done, and nothing stands on standard error
pub record EndsDone (a : Answer) (before now : Told) : Type 0 where
  pub entries : List Entry
  pub answer : a ≡ Texts entries
  pub left : Leaves entries before now

-- the entries before the refusal were done, none but where a run stops, and then its line is whole
pub record EndsRefused (a : Answer) (before now : Told) : Type 0 where
  pub line : Text
  pub answer : refusal_of a ≡ Some line
  pub left : Leaves (entries_of a ++ on_errors (error_line line)) before now

-- why there may be a world fault: faults rose, or a file that is not there was read
abbrev pub FaultCause : Answer → Told → Told → Type 0
FaultCause a before now = Rose before.faults now.faults ⊎ ((name : Text) × (a ≡ Unread name) × Rose before.absent now.absent)

-- How far the entries came before a world fault, and the line that tells it: that of the refusal, with all of its entries done; that of a
-- file of the words, with nothing done; or that of the entry at which the world failed, with the entries before it done whole and of
-- this one a front.
pub data FaultLine (named : List Text) (a : Answer) (part : List Entry) (text : Text) : Type 0 where
  OfRefusal : refusal_of a ≡ Some text → part ≡ entries_of a → FaultLine named a part text
  OfRead : (name : Text) → Contains named name → text ≡ not_read name → part ≡ [] → FaultLine named a part text
  OfEntry : (done : List Entry) (entry : Entry) (rest : List Entry) (bytes : ℕ) → done ++ entry ∷ rest ≡ entries_of a → IsPart bytes entry → text ≡ entry_text entry → part ≡ done ++ front bytes entry → FaultLine named a part text

-- a file that is not there is told whole, where faults did not rise
abbrev pub TellsUnread : Answer → List ℕ → Told → Told → Type 0
TellsUnread a errors before now = (name : Text) → a ≡ Unread name → (errors ≡ error_line (not_read name)) ⊎ Rose before.faults now.faults

-- the entries came so far, and then came a front of the line
pub record EndsFaulty (named : List Text) (a : Answer) (before now : Told) : Type 0 where
  pub cause : FaultCause a before now
  pub part : List Entry
  pub text : Text
  pub line : FaultLine named a part text
  pub errors : List ℕ
  pub said : IsPrefix errors (error_line text)
  pub unread : TellsUnread a errors before now
  pub left : Leaves (part ++ on_errors errors) before now

-- the line is whole, or a front of it where faults rose
abbrev pub SaysWanting : List ℕ → Told → Told → Type 0
SaysWanting errors before now = (errors ≡ error_line out_of_memory) ⊎ (IsPrefix errors (error_line out_of_memory) × Rose before.faults now.faults)

-- nothing was done but for the line
pub record EndsWanting (before now : Told) : Type 0 where
  pub errors : List ℕ
  pub said : SaysWanting errors before now
  pub left : Leaves (on_errors errors) before now

abbrev pub Ends : Status → List Text → Answer → Told → Told → Type 0
Ends status.Done named a before now = EndsDone a before now
Ends status.Refused named a before now = EndsRefused a before now
Ends status.WorldFault named a before now = EndsFaulty named a before now
Ends status.NoMemory named a before now = EndsWanting before now

-- some answer that is allowed, with what the status says of it
pub record Table (Allowed : Answer → Type 0) (s : Status) (named : List Text) (before now : Told) : Type 0 where
  pub answer : Answer
  pub allowed : Allowed answer
  pub quiet : AreQuiet (entries_of answer)
  pub ends : Ends s named answer before now
