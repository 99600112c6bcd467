-- What a code does to the outside, and what it asks next.
use Rattle.std.specs.Prelude.{ℕ, zero, suc, List, [], ◌∷◌, take, drop, fold}
use Rattle.vs_base.specs.Number.{Number, kept}
use Rattle.task_eval.specs.declared.op.Op.{Op}
use Rattle.task_eval.specs.declared.frame.Ask.{Ask}
use Rattle.task_eval.specs.declared.frame.Ask.TheVariants as ask
use Rattle.task_eval.specs.Codes.{Ops}
use Rattle.task_eval.specs.Moves.{Move, goes, loads, stores, calls, arguments, move}

-- a run: it is at its end, or it loads a word, stores a value or calls an import, and goes on with what it was given
pub data Course : Type 0 where
  finished : Course
  loading : (word : ℕ) → (ℕ → Course) → Course
  storing : (word value : ℕ) → Course → Course
  calling : (import : ℕ) → (args : List ℕ) → (ℕ → Course) → Course

-- on from a move: the arguments of a call are taken, and what the outside gives is pushed, cut to its width
abbrev pub from : Move → (ℕ → List Number → Course) → Course
from (goes skip stack) go = go skip stack
from (loads word width stack) go = loading word (λ v. go 0 (kept width v ∷ stack))
from (stores word value stack) go = storing word value (go 0 stack)
from (calls import count width stack) go = calling import (arguments (take count stack)) (λ v. go 0 (kept width v ∷ drop count stack))

-- the run of these ops, of which so many are skipped first, from a stack
abbrev pub course : List Op → ℕ → List Number → Course
course [] skip stack = finished
course (o ∷ more) (suc skip) stack = course more skip stack
course (o ∷ more) zero stack = from (move o stack) (course more)

-- the whole run of a code
abbrev pub course_of : Ops → Course
course_of code = course code.ops 0 []

-- what a run asks next, with the arguments of a call
abbrev pub asks : Course → Ask
asks finished = ask.Done
asks (loading word go) = ask.Load word
asks (storing word value go) = ask.Store word value
asks (calling import args go) = ask.Call import

abbrev pub args_of : Course → List ℕ
args_of finished = []
args_of (loading word go) = []
args_of (storing word value go) = []
args_of (calling import args go) = args

-- the run that is left once it was given a value; a store is given what it stored, and looks at nothing
abbrev pub after : Course → ℕ → Course
after finished v = finished
after (loading word go) v = go v
after (storing word value go) v = go
after (calling import args go) v = go v

-- the run that is left of a code once it was given these values, the first one first, one for each load, store and call
abbrev pub reached : Ops → List ℕ → Course
reached code given = fold after (course_of code) given

-- what a code asks once it was given these values
abbrev pub asked : Ops → List ℕ → Ask
asked code given = asks (reached code given)
