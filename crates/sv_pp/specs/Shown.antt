-- How the code's values show the definition: what was read so far, and where a file has been read to.
use Rattle.std.specs.Prelude.{◌≡◌, ◌≤◌, ℕ, List, [], ◌∷◌, ◌++◌, Bool, if◌then◌else◌, not, Result, Ok, Err}
use Rattle.std.specs.List.{list_all}
use Rattle.sv_tree.specs.declared.token.Token.{Token}
use Rattle.sv_pp.specs.declared.fault.PpFault.{PpFault}
use Rattle.sv_pp.specs.declared.file.Open.{Open}
use Rattle.sv_pp.specs.declared.file.Place.{Place}
use Rattle.sv_pp.specs.declared.reading.Going.{Going}
use Rattle.sv_pp.specs.Directive.{Text}
use Rattle.sv_pp.specs.Reading.{Reading, Macros, joined}
use Rattle.sv_pp.specs.Active.{Branch, State, Step, is_taken, same, at_start, file_reading}
use Rattle.sv_pp.specs.Answer.{so_far, FaultIs}
use Rattle.sv_pp.specs.Table.{Keeps}

-- ---- readings

-- what was read so far, without a fault
abbrev pub read_by : Going → Reading
read_by going = so_far going.tokens.items going.count

-- it was read to its end after what was read before, within the limit
pub record Went (before after : Going) (r : Reading) : Type 0 where
  pub is : read_by after ≡ joined (read_by before) r
  pub few : after.count ≤ after.most
  pub same_most : after.most ≡ before.most

-- its fault is the answer, after what was read before
abbrev pub Stops : Going → Reading → PpFault → Type 0
Stops before r f = FaultIs before.most f (joined (read_by before) r)

-- it was read to its end, or its fault is the answer
abbrev pub Reads : {A : Type 0} → Going → Going → Result A PpFault → Reading → Type 0
Reads before after (Ok x) r = Went before after r
Reads before after (Err f) r = Stops before r f

-- what is left comes to the whole that was to be read after what was read before
pub record Remains (before now : Going) (left whole : Reading) : Type 0 where
  pub is : joined (read_by now) left ≡ joined (read_by before) whole
  pub few : now.count ≤ now.most
  pub same_most : now.most ≡ before.most

-- ---- places in a file

abbrev pub branch_of : Open → Branch
branch_of o = record { at = o.at; taken = o.taken; is_else = o.is_else }

-- the open branches, the innermost last, each with whether those round it are all taken
abbrev pub Stacked : List Open → List Branch → Type 0
Stacked opens [] = opens ≡ []
Stacked opens (b ∷ bs) = (o : Open) × (round : List Open) × (opens ≡ round ++ o ∷ []) × (b ≡ branch_of o) × (o.outer ≡ list_all is_taken bs) × Stacked round bs

-- the place has the macros and the open branches of the state
pub record Shows (names : List Text) (place : Place) (s : State) : Type 0 where
  pub kept : Keeps names place.table s.macros
  pub stacked : Stacked place.branches.items s.branches

-- `ifdef` wants the name defined, `ifndef` does not
abbrev pub test_of : Bool → Bool → Bool
test_of wanted = if wanted then same else not

-- the step was taken to its end, and so many of the next tokens belong to it
pub record Stepped (names : List Text) (before after : Going) (place : Place) (more : ℕ) (step : Step) : Type 0 where
  pub went : Went before after step.reading
  pub more_is : more ≡ step.more
  pub shows : Shows names place step.after

-- at each state that the place shows, its step is taken, or it has the fault
abbrev pub Takes : List Text → Place → Going → Place → Going → Result ℕ PpFault → (State → Step) → Type 0
Takes names place going place' going' (Ok more) step = (s : State) → Shows names place s → Stepped names going going' place' more (step s)
Takes names place going place' going' (Err f) step = (s : State) → Shows names place s → Stops going (step s).reading f

-- a file is read to its end, with these macros after it, whatever follows
pub record Ended (names : List Text) (before after : Going) (place : Place) (macros : Macros) (tokens : List Token) : Type 0 where
  pub macros_after : Macros
  pub shows : Shows names place (at_start macros_after)
  pub remains : (next : Macros → Reading) → Remains before after (next macros_after) (file_reading names next 0 (at_start macros) tokens)

-- with the macros that the table keeps, a file is read to its end, or it has the fault
abbrev pub ReadsFile : {A : Type 0} → List Text → Place → Going → Place → Going → Result A PpFault → List Token → Type 0
ReadsFile names place going place' going' (Ok x) tokens = (macros : Macros) → Shows names place (at_start macros) → Ended names going going' place' macros tokens
ReadsFile names place going place' going' (Err f) tokens = (macros : Macros) → Shows names place (at_start macros) → (next : Macros → Reading) → Stops going (file_reading names next 0 (at_start macros) tokens) f
