-- The end of a code, which grows at its front.
use Rattle.std.specs.Prelude.{ℕ, ◌+◌, ◌-◌, ◌*◌, ◌<◌, ◌≤◌, Bool, true, false, List, [], ◌∷◌, length}
use Rattle.task_eval.specs.declared.op.Op.{Op}
use Rattle.task_eval.specs.declared.op.Op.TheVariants as op
use Rattle.task_eval.specs.Soundness.{IsSoundFrom, IsWithin}
use Rattle.task_code.specs.declared.tail.Limits.{Limits}
use Rattle.task_code.specs.declared.tail.Mark.{Mark}

-- no op is skipped after it
abbrev pub is_plain : Op → Bool
is_plain (op.Skip n) = false
is_plain (op.SkipIfZero n) = false
is_plain (op.SkipIfTrue n) = false
is_plain _ = true

-- what it stores it may store
abbrev pub StoresIn : Limits → Op → Type 0
StoresIn limits (op.Store word width) = (limits.from ≤ word) × (word < limits.to)
StoresIn limits (op.StoreAt e width) = (k : ℕ) → k < e.count → (limits.from ≤ e.base + k * e.stride) × (e.base + k * e.stride < limits.to)
StoresIn limits _ = Unit {0}

abbrev pub AllStoreIn : Limits → List Op → Type 0
AllStoreIn limits [] = Unit {0}
AllStoreIn limits (o ∷ more) = StoresIn limits o × AllStoreIn limits more

-- how many values are on the stack at each open mark, and what the ops may name
pub record Held : Type 0 where
  pub marks : List ℕ
  pub limits : Limits

-- the ops, how many values are on the stack at their front, and how many at most
pub record TailOps : Type 0 where
  pub ops : List Op
  pub depth : ℕ
  pub room : ℕ
  pub held : Held

abbrev pub depth_at : Mark → ℕ
depth_at m = m.depth

-- a jump from the front to a mark lands at ops that are sound with as many values as the mark says
abbrev pub Lands : ℕ → List Op → Mark → Type 0
Lands room ops m = (m.left ≤ length ops) × (m.depth ≤ room) × IsSoundFrom room ops (length ops - m.left) m.depth

abbrev pub AllLand : ℕ → List Op → List Mark → Type 0
AllLand room ops [] = Unit {0}
AllLand room ops (m ∷ more) = Lands room ops m × AllLand room ops more

-- it is sound from its front and from each mark, never holds more values than its room, and names and stores only what it may
pub record IsTail (room depth : ℕ) (ops : List Op) (marks : List Mark) (limits : Limits) : Type 0 where
  pub deep : depth ≤ room
  pub sound : IsSoundFrom room ops 0 depth
  pub lands : AllLand room ops marks
  pub within : IsWithin limits.words limits.imports ops
  pub stores : AllStoreIn limits ops
