-- When a code is sound, and when it names only words and imports that are there.
use Rattle.std.specs.Prelude.{◌≡◌, ℕ, zero, suc, ◌+◌, ◌-◌, ◌*◌, ◌^◌, ◌<◌, ◌≤◌, List, [], ◌∷◌, length}
use Rattle.task_eval.specs.declared.op.Op.{Op}
use Rattle.task_eval.specs.declared.op.Op.TheVariants as op
use Rattle.task_eval.specs.declared.index.Elements.{Elements}
use Rattle.task_eval.specs.Moves.{Move, goes, loads, stores, calls}

-- how many values an op takes from the stack
abbrev pub takes : Op → ℕ
takes (op.Push n) = 0
takes (op.Load word width) = 0
takes (op.LoadAt e width) = 1
takes (op.Store word width) = 1
takes (op.StoreAt e width) = 2
takes (op.Slice at width) = 1
takes (op.SliceAt i width) = 2
takes (op.Place at) = 2
takes (op.PlaceAt i) = 3
takes (op.Extend width signed) = 1
takes (op.One o) = 1
takes (op.Two o width signed) = 2
takes (op.Join high low) = 2
takes (op.Repeat times width) = 1
takes (op.Pick below) = below + 1
takes op.Drop = 1
takes (op.Skip n) = 0
takes (op.SkipIfZero n) = 1
takes (op.SkipIfTrue n) = 1
takes (op.Call import count width) = count

-- how many it puts back
abbrev pub puts : Op → ℕ
puts (op.Push n) = 1
puts (op.Load word width) = 1
puts (op.LoadAt e width) = 1
puts (op.Store word width) = 0
puts (op.StoreAt e width) = 0
puts (op.Slice at width) = 1
puts (op.SliceAt i width) = 1
puts (op.Place at) = 1
puts (op.PlaceAt i) = 1
puts (op.Extend width signed) = 1
puts (op.One o) = 1
puts (op.Two o width signed) = 1
puts (op.Join high low) = 1
puts (op.Repeat times width) = 1
puts (op.Pick below) = below + 2
puts op.Drop = 0
puts (op.Skip n) = 0
puts (op.SkipIfZero n) = 0
puts (op.SkipIfTrue n) = 0
puts (op.Call import count width) = 1

-- a width of so many bits at most
abbrev pub IsWidth : ℕ → ℕ → Type 0
IsWidth most width = (1 ≤ width) × (width ≤ most)

-- the words of all elements have numbers of 32 bits
abbrev pub HasWords : Elements → Type 0
HasWords e = e.base + e.count * e.stride ≤ 2 ^ 32

-- the widths and counts of an op are those that it may have
abbrev pub IsShaped : Op → Type 0
IsShaped (op.Push n) = Unit {0}
IsShaped (op.Load word width) = IsWidth 64 width
IsShaped (op.LoadAt e width) = IsWidth 64 width × HasWords e
IsShaped (op.Store word width) = IsWidth 64 width
IsShaped (op.StoreAt e width) = IsWidth 64 width × HasWords e
IsShaped (op.Slice at width) = IsWidth 128 width
IsShaped (op.SliceAt i width) = IsWidth 128 width
IsShaped (op.Place at) = Unit {0}
IsShaped (op.PlaceAt i) = Unit {0}
IsShaped (op.Extend width signed) = IsWidth 128 width
IsShaped (op.One o) = Unit {0}
IsShaped (op.Two o width signed) = IsWidth 128 width
IsShaped (op.Join high low) = (1 ≤ high) × (1 ≤ low) × (high + low ≤ 128)
IsShaped (op.Repeat times width) = (1 ≤ times) × (1 ≤ width) × (times * width ≤ 128)
IsShaped (op.Pick below) = Unit {0}
IsShaped op.Drop = Unit {0}
IsShaped (op.Skip n) = Unit {0}
IsShaped (op.SkipIfZero n) = Unit {0}
IsShaped (op.SkipIfTrue n) = Unit {0}
IsShaped (op.Call import count width) = (count ≤ 8) × IsWidth 64 width

-- an op may be done on a stack of this depth, which holds at most so many values
pub record IsFit (most : ℕ) (o : Op) (depth : ℕ) : Type 0 where
  pub enough : takes o ≤ depth
  pub room : depth - takes o + puts o ≤ most
  pub shaped : IsShaped o

-- each way on from an op: those that a jump skips, and those that come next
abbrev pub AllWays : Op → (ℕ → Type 0) → Type 0
AllWays (op.Push n) Way = Way 0
AllWays (op.Load word width) Way = Way 0
AllWays (op.LoadAt e width) Way = Way 0
AllWays (op.Store word width) Way = Way 0
AllWays (op.StoreAt e width) Way = Way 0
AllWays (op.Slice at width) Way = Way 0
AllWays (op.SliceAt i width) Way = Way 0
AllWays (op.Place at) Way = Way 0
AllWays (op.PlaceAt i) Way = Way 0
AllWays (op.Extend width signed) Way = Way 0
AllWays (op.One o) Way = Way 0
AllWays (op.Two o width signed) Way = Way 0
AllWays (op.Join high low) Way = Way 0
AllWays (op.Repeat times width) Way = Way 0
AllWays (op.Pick below) Way = Way 0
AllWays op.Drop Way = Way 0
AllWays (op.Skip n) Way = Way n
AllWays (op.SkipIfZero n) Way = Way 0 × Way n
AllWays (op.SkipIfTrue n) Way = Way 0 × Way n
AllWays (op.Call import count width) Way = Way 0

-- on each way through these ops, of which so many are skipped first, each op may be done, and no jump goes past their end
abbrev pub IsSoundFrom : ℕ → List Op → ℕ → ℕ → Type 0
IsSoundFrom most [] skip depth = skip ≡ 0
IsSoundFrom most (o ∷ more) (suc skip) depth = IsSoundFrom most more skip depth
IsSoundFrom most (o ∷ more) zero depth = IsFit most o depth × AllWays o (λ skip. IsSoundFrom most more skip (depth - takes o + puts o))

-- a code whose stack holds at most so many values is sound
abbrev pub IsSound : ℕ → List Op → Type 0
IsSound most ops = IsSoundFrom most ops 0 0

-- a run that takes a value of so many bits may go on with these ops, at a depth
pub record CanTake (room : ℕ) (more : List Op) (width depth : ℕ) : Type 0 where
  pub is_width : IsWidth 64 width
  pub has_room : depth < room
  pub goes_on : IsSoundFrom room more 0 (suc depth)

-- after a move the ops that follow may be done
abbrev pub IsSoundMove : ℕ → List Op → Move → Type 0
IsSoundMove room more (goes skip stack) = IsSoundFrom room more skip (length stack)
IsSoundMove room more (loads word width stack) = CanTake room more width (length stack)
IsSoundMove room more (stores word value stack) = IsSoundFrom room more 0 (length stack)
IsSoundMove room more (calls import count width stack) = (count ≤ 8) × (count ≤ length stack) × CanTake room more width (length stack - count)

-- all words that an op may touch, and the import that it calls, are there
abbrev pub OpWithin : ℕ → ℕ → Op → Type 0
OpWithin words imports (op.Push n) = Unit {0}
OpWithin words imports (op.Load word width) = word < words
OpWithin words imports (op.LoadAt e width) = (k : ℕ) → k < e.count → e.base + k * e.stride < words
OpWithin words imports (op.Store word width) = word < words
OpWithin words imports (op.StoreAt e width) = (k : ℕ) → k < e.count → e.base + k * e.stride < words
OpWithin words imports (op.Slice at width) = Unit {0}
OpWithin words imports (op.SliceAt i width) = Unit {0}
OpWithin words imports (op.Place at) = Unit {0}
OpWithin words imports (op.PlaceAt i) = Unit {0}
OpWithin words imports (op.Extend width signed) = Unit {0}
OpWithin words imports (op.One o) = Unit {0}
OpWithin words imports (op.Two o width signed) = Unit {0}
OpWithin words imports (op.Join high low) = Unit {0}
OpWithin words imports (op.Repeat times width) = Unit {0}
OpWithin words imports (op.Pick below) = Unit {0}
OpWithin words imports op.Drop = Unit {0}
OpWithin words imports (op.Skip n) = Unit {0}
OpWithin words imports (op.SkipIfZero n) = Unit {0}
OpWithin words imports (op.SkipIfTrue n) = Unit {0}
OpWithin words imports (op.Call import count width) = import < imports

-- the same of each of these ops
abbrev pub IsWithin : ℕ → ℕ → List Op → Type 0
IsWithin words imports [] = Unit {0}
IsWithin words imports (o ∷ more) = OpWithin words imports o × IsWithin words imports more
