-- What one op does on a stack, whose top stands first.
use Rattle.std.specs.Prelude.{ℕ, ◌^◌, ◌%◌, Bool, if◌then◌else◌, List, [], ◌∷◌, map, reverse, slice_index_or, Option, Some, None}
use Rattle.vs_base.specs.Number.{Number, kept, extended, sliced, placed, added, conjoined}
use Rattle.vs_base.specs.Operators.{subtracted, negated, multiplied, divided, remaining, disjoined, differing, inverted, agreeing, shifted_left, shifted_right, less, at_most, equal, unequal, holds_true, negation, all_ones, some_one, odd_ones, joined, repeated}
use Rattle.task_eval.specs.declared.op.One.{One}
use Rattle.task_eval.specs.declared.op.One.TheVariants as one
use Rattle.task_eval.specs.declared.op.Two.{Two}
use Rattle.task_eval.specs.declared.op.Two.TheVariants as two
use Rattle.task_eval.specs.declared.op.Op.{Op}
use Rattle.task_eval.specs.declared.op.Op.TheVariants as op
use Rattle.task_eval.specs.Places.{place_of, word_at}

-- what an operator gives for one operand
abbrev pub operated_alone : One → Number → Number
operated_alone one.Minus a = negated a
operated_alone one.Invert a = inverted a
operated_alone one.Not a = negation a
operated_alone one.And a = all_ones a
operated_alone one.Nand a = inverted (all_ones a)
operated_alone one.Or a = some_one a
operated_alone one.Nor a = inverted (some_one a)
operated_alone one.Xor a = odd_ones a
operated_alone one.Xnor a = inverted (odd_ones a)

-- what an operator gives for two operands of one width, read with or without a sign
abbrev pub between : Two → Bool → Number → Number → Number
between two.Mul signed a b = multiplied a b
between two.Div signed a b = divided signed a b
between two.Rem signed a b = remaining signed a b
between two.Add signed a b = added a b
between two.Sub signed a b = subtracted a b
between two.Shl signed a b = shifted_left a b.value
between two.Shr signed a b = shifted_right signed a b.value
between two.Lt signed a b = less signed a b
between two.Le signed a b = at_most signed a b
between two.Gt signed a b = less signed b a
between two.Ge signed a b = at_most signed b a
between two.Eq signed a b = equal a b
between two.Ne signed a b = unequal a b
between two.And signed a b = conjoined a b
between two.Xor signed a b = differing a b
between two.Xnor signed a b = agreeing a b
between two.Or signed a b = disjoined a b

-- the right operand at so many bits, but as it is where it counts places
abbrev pub right_side : Two → ℕ → Number → Number
right_side two.Shl width b = b
right_side two.Shr width b = b
right_side two.Mul width b = kept width b.value
right_side two.Div width b = kept width b.value
right_side two.Rem width b = kept width b.value
right_side two.Add width b = kept width b.value
right_side two.Sub width b = kept width b.value
right_side two.Lt width b = kept width b.value
right_side two.Le width b = kept width b.value
right_side two.Gt width b = kept width b.value
right_side two.Ge width b = kept width b.value
right_side two.Eq width b = kept width b.value
right_side two.Ne width b = kept width b.value
right_side two.And width b = kept width b.value
right_side two.Xor width b = kept width b.value
right_side two.Xnor width b = kept width b.value
right_side two.Or width b = kept width b.value

abbrev pub operated : Two → ℕ → Bool → Number → Number → Number
operated o width signed a b = between o signed (kept width a.value) (right_side o width b)

-- how a code goes on after an op: it skips so many ops, or wants something of the outside first, and the stack is this. The arguments
-- of a call still stand on the stack
pub data Move : Type 0 where
  goes : (skip : ℕ) → (stack : List Number) → Move
  loads : (word width : ℕ) → (stack : List Number) → Move
  stores : (word value : ℕ) → (stack : List Number) → Move
  calls : (import count width : ℕ) → (stack : List Number) → Move

-- with the operands on top; no sound code lacks one
abbrev pub on_one : List Number → (Number → List Number → Move) → Move
on_one [] act = goes 0 []
on_one (a ∷ more) act = act a more

abbrev pub on_two : List Number → (Number → Number → List Number → Move) → Move
on_two stack act = on_one stack (λ b more. on_one more (act b))

abbrev pub on_three : List Number → (Number → Number → Number → List Number → Move) → Move
on_three stack act = on_one stack (λ d more. on_two more (act d))

-- an op that gives a value
abbrev pub gives : Number → List Number → Move
gives n more = goes 0 (n ∷ more)

-- where there is no element, 0 is read and nothing is written
abbrev pub load_at : Option ℕ → ℕ → List Number → Move
load_at (Some word) width more = loads word width more
load_at None width more = gives (kept width 0) more

abbrev pub store_at : Option ℕ → ℕ → List Number → Move
store_at (Some word) value more = stores word value more
store_at None value more = goes 0 more

abbrev pub no_number : Number
no_number = record { width = 1; value = 0 }

-- the arguments on a stack, the first one first, of 64 bits each
abbrev pub arguments : List Number → List ℕ
arguments values = reverse (map (λ n. n.value % 2 ^ 64) values)

-- what an op does
abbrev pub move : Op → List Number → Move
move (op.Push n) stack = gives n stack
move (op.Load word width) stack = loads word width stack
move (op.LoadAt e width) stack = on_one stack (λ address more. load_at (word_at e address) width more)
move (op.Store word width) stack = on_one stack (λ n more. stores word (n.value % 2 ^ width) more)
move (op.StoreAt e width) stack = on_two stack (λ address n more. store_at (word_at e address) (n.value % 2 ^ width) more)
move (op.Slice at width) stack = on_one stack (λ n more. gives (sliced n at width) more)
move (op.SliceAt i width) stack = on_two stack (λ index n more. gives (sliced n (place_of i index) width) more)
move (op.Place at) stack = on_two stack (λ part n more. gives (placed n at part) more)
move (op.PlaceAt i) stack = on_three stack (λ index part n more. gives (placed n (place_of i index) part) more)
move (op.Extend width signed) stack = on_one stack (λ n more. gives (extended n width signed) more)
move (op.One o) stack = on_one stack (λ n more. gives (operated_alone o n) more)
move (op.Two o width signed) stack = on_two stack (λ b a more. gives (operated o width signed a b) more)
move (op.Join high low) stack = on_two stack (λ b a more. gives (joined (kept high a.value) (kept low b.value)) more)
move (op.Repeat times width) stack = on_one stack (λ n more. gives (repeated times (kept width n.value)) more)
move (op.Pick below) stack = gives (slice_index_or stack below no_number) stack
move op.Drop stack = on_one stack (λ n more. goes 0 more)
move (op.Skip n) stack = goes n stack
move (op.SkipIfZero n) stack = on_one stack (λ test more. goes (if holds_true test then 0 else n) more)
move (op.SkipIfTrue n) stack = on_one stack (λ test more. goes (if holds_true test then n else 0) more)
move (op.Call import count width) stack = calls import count width stack
