-- Where a frame stands in the run of a code.
use Rattle.std.specs.Prelude.{◌≡◌, ℕ, suc, ◌-◌, ◌<◌, ◌≤◌, List, ◌∷◌, length, drop}
use Rattle.vs_base.specs.Number.{Number, kept}
use Rattle.task_eval.specs.declared.op.Op.{Op}
use Rattle.task_eval.specs.declared.frame.Ask.{Ask}
use Rattle.task_eval.specs.declared.frame.Ask.TheVariants as ask
use Rattle.task_eval.specs.declared.step.Step.{Step}
use Rattle.task_eval.specs.declared.step.Step.TheVariants as step
use Rattle.task_eval.specs.Codes.{Ops}
use Rattle.task_eval.specs.Moves.{Move, goes, loads, stores, calls}
use Rattle.task_eval.specs.Course.{Course, course, after, args_of, reached}
use Rattle.task_eval.specs.Soundness.{IsSoundFrom}

-- a node that runs: how many ops are left, the stack with its top first and how many values it has room for, the width of the value
-- that is awaited, and the arguments of the last call
pub record Running : Type 0 where
  pub left : ℕ
  pub stack : List Number
  pub room : ℕ
  pub awaits : ℕ
  pub args : List ℕ

-- so many of the last ops
abbrev pub last : ℕ → List Op → List Op
last left ops = drop (length ops - left) ops

-- the run that is left from here
abbrev pub going : Ops → Running → Course
going code f = course (last f.left code.ops) 0 f.stack

-- the frame once it was given the value that it awaits
abbrev pub given : Running → ℕ → Running
given f v = record f { stack = kept f.awaits v ∷ f.stack }

-- the frame was given these values by this code
abbrev pub HasGiven : Ops → Running → List ℕ → Type 0
HasGiven code f values = going code f ≡ reached code values

-- the frame stands in this code, and can go on
pub record IsReady (code : Ops) (f : Running) : Type 0 where
  pub within : f.left ≤ length code.ops
  pub sound : IsSoundFrom f.room (last f.left code.ops) 0 (length f.stack)

-- the frame stands in this code, and can go on once it was given a value
pub record IsWaiting (code : Ops) (f : Running) : Type 0 where
  pub within : f.left ≤ length code.ops
  pub sound : IsSoundFrom f.room (last f.left code.ops) 0 (suc (length f.stack))
  pub room : length f.stack < f.room

-- how a frame stands after what it asked, where this run was left before
abbrev pub IsNext : Ops → Course → Ask → Running → Type 0
IsNext code c (ask.Load word) f = IsWaiting code f × ((v : ℕ) → going code (given f v) ≡ after c v)
IsNext code c (ask.Store word value) f = IsReady code f × (going code f ≡ after c value)
IsNext code c (ask.Call import) f = IsWaiting code f × ((v : ℕ) → going code (given f v) ≡ after c v) × (f.args ≡ args_of c)
IsNext code c ask.Done f = Unit {0}

-- fewer ops are left after each load, store and call
abbrev pub IsFewer : Ask → ℕ → ℕ → Type 0
IsFewer (ask.Load word) before now = now < before
IsFewer (ask.Store word value) before now = now < before
IsFewer (ask.Call import) before now = now < before
IsFewer ask.Done before now = Unit {0}

-- what is asked is there
abbrev pub IsAskedWithin : ℕ → ℕ → Ask → Type 0
IsAskedWithin words imports (ask.Load word) = word < words
IsAskedWithin words imports (ask.Store word value) = word < words
IsAskedWithin words imports (ask.Call import) = import < imports
IsAskedWithin words imports ask.Done = Unit {0}

-- a step that was made, as a move
abbrev pub moved : Step → List Number → Move
moved (step.Goes skip) stack = goes skip stack
moved (step.Loads word width) stack = loads word width stack
moved (step.Stores word value) stack = stores word value stack
moved (step.Calls import count width) stack = calls import count width stack

-- fewer ops are left where a run halts, and none where it asks nothing
abbrev pub IsLeft : Step → ℕ → ℕ → Type 0
IsLeft (step.Goes skip) left before = left ≡ 0
IsLeft (step.Loads word width) left before = left < before
IsLeft (step.Stores word value) left before = left < before
IsLeft (step.Calls import count width) left before = left < before
