-- How far a command came that ends early, before the line that tells why.
use Rattle.std.specs.Prelude.{◌≡◌, ◌⊎◌, ℕ, List, [], ◌∷◌, ◌++◌, Some, Contains}
use Rattle.vs_world.specs.Outside.{Told, Rose}
use Rattle.vs_world.specs.Entries.{Entry, IsPart, front}
use Rattle.run_status.specs.Lines.{Text, not_read, entry_text}
use Rattle.run_status.specs.Answer.{Answer, Unread, Texts, entries_of, refusal_of, AreQuiet, Ending, Refusing, Failing, Wanting, Leaves}

-- a stage that does nothing to the world ended by a refusal for which there is a cause, or memory ran out
abbrev pub RefusedBy : Ending → (Text → Type 0) → Type 0
RefusedBy (Refusing line) Cause = Cause line
RefusedBy (Failing line) Cause = ⊥
RefusedBy Wanting Cause = Unit {0}

-- the answer is a refusal by this line, and the entries before it were done
pub record CameToRefusal (Allowed : Answer → Type 0) (line : Text) (before now : Told) : Type 0 where
  pub answer : Answer
  pub allowed : Allowed answer
  pub quiet : AreQuiet (entries_of answer)
  pub refusal : refusal_of answer ≡ Some line
  pub left : Leaves (entries_of answer) before now

-- a named file was not read: faults rose, or it is not there
pub record FailedAtRead (Allowed : Answer → Type 0) (named : List Text) (line : Text) (before now : Told) : Type 0 where
  pub name : Text
  pub among : Contains named name
  pub text : line ≡ not_read name
  pub cause : Rose before.faults now.faults ⊎ (Rose before.absent now.absent × Allowed (Unread name))
  pub left : Leaves [] before now

-- the world failed at an entry of the answer
pub record FailedAtEntry (Allowed : Answer → Type 0) (line : Text) (before now : Told) : Type 0 where
  pub answer : Answer
  pub allowed : Allowed answer
  pub quiet : AreQuiet (entries_of answer)
  pub done : List Entry
  pub entry : Entry
  pub rest : List Entry
  pub bytes : ℕ
  pub whole : done ++ entry ∷ rest ≡ entries_of answer
  pub part : IsPart bytes entry
  pub text : line ≡ entry_text entry
  pub rose : Rose before.faults now.faults
  pub left : Leaves (done ++ front bytes entry) before now

abbrev pub Came : (Answer → Type 0) → List Text → Ending → Told → Told → Type 0
Came Allowed named (Refusing line) before now = CameToRefusal Allowed line before now
Came Allowed named (Failing line) before now = FailedAtRead Allowed named line before now ⊎ FailedAtEntry Allowed line before now
Came Allowed named Wanting before now = Leaves [] before now

-- all entries of an answer were done
pub record Finished (Allowed : Answer → Type 0) (before now : Told) : Type 0 where
  pub entries : List Entry
  pub allowed : Allowed (Texts entries)
  pub quiet : AreQuiet entries
  pub left : Leaves entries before now

-- some answer is allowed
pub record HasAnswer (Allowed : Answer → Type 0) : Type 0 where
  pub answer : Answer
  pub allowed : Allowed answer
  pub quiet : AreQuiet (entries_of answer)
