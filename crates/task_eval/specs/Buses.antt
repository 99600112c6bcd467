-- What a bus shows, and a run on it.
use Rattle.std.specs.Prelude.{ℕ, List, [], ◌∷◌, ◌++◌, slice_index, slice_set, Option, option_map}
use Rattle.dpi_host.specs.Calls.{Call}
use Rattle.dpi_host.specs.HostMachine.{Answer, After, reply_of}
use Rattle.task_eval.specs.Course.{Course, finished, loading, storing, calling}

-- a store or a call that was made
pub data Deed : Type 0 where
  stored : (word value : ℕ) → Deed
  called : Call → Deed

-- the words, the host, the host's numbers of the imports and the widths of their results, and, where the bus tells them, the stores and
-- calls made so far, in order
pub record Outside : Type 0 where
  pub words : List ℕ
  pub fixed : List (List ℕ)
  pub state : List ℕ
  pub ids : List ℕ
  pub widths : List ℕ
  pub made : Option (List Deed)

abbrev pub with_deed : Deed → List Deed → List Deed
with_deed deed made = made ++ deed ∷ []

-- a value is stored in a word
abbrev pub store : ℕ → ℕ → Outside → Outside
store word value b = record b { words = slice_set b.words word value; made = option_map (with_deed (stored word value)) b.made }

-- on a host that answers so, and moves its state so
module _ (answer : Answer) (after : After) where
  -- the reply to a call: the answer, cut to the width of the import's result
  abbrev pub reply : ℕ → List ℕ → Outside → ℕ
  reply import args b = reply_of (slice_index b.widths import) (answer b.fixed b.state (slice_index b.ids import) args)

  -- an import is called
  abbrev pub call : ℕ → List ℕ → Outside → Outside
  call import args b = record b {
    state = after b.fixed b.state (slice_index b.ids import) args;
    made = option_map (with_deed (called (record { import = import; args = args; reply = reply import args b }))) b.made;
  }

  -- a run goes to its end
  abbrev pub run : Course → Outside → Outside
  run finished b = b
  run (loading word go) b = run (go (slice_index b.words word)) b
  run (storing word value go) b = run go (store word value b)
  run (calling import args go) b = run (go (reply import args b)) (call import args b)
