-- The definitions, worked out.
use Rattle.std.proofs.Common.{◌≡◌, ℕ, List, [], ◌∷◌, true, false, refl, arith, Some, None, negsuc}
use Rattle.vs_base.specs.Number.{Number}
use Rattle.dpi_host.specs.HostMachine.{Answer, After}
use Rattle.task_eval.specs.declared.op.Op.TheVariants as op
use Rattle.task_eval.specs.declared.op.Two.TheVariants as two
use Rattle.task_eval.specs.declared.index.Elements.{Elements}
use Rattle.task_eval.specs.declared.frame.Ask.TheVariants as ask
use Rattle.task_eval.specs.Codes.{Ops}
use Rattle.task_eval.specs.Places.{word_at}
use Rattle.task_eval.specs.Moves.{goes, arguments, move}
use Rattle.task_eval.specs.Course.{asked, course_of}
use Rattle.task_eval.specs.Soundness.{IsSound}
use Rattle.task_eval.specs.Buses.{Outside, Deed, stored, run}

abbrev bits : ℕ → ℕ → Number
bits width value = record { width = width; value = value }

-- ---- moves

-- 0xff + 0xff in 8 bits, and 5 < 0xff with a sign and without
sum_is_cut : move (op.Two two.Add 8 false) (bits 8 0xff ∷ bits 8 0xff ∷ []) ≡ goes 0 (bits 8 0xfe ∷ [])
sum_is_cut = refl

left_stands_below : move (op.Two two.Sub 8 false) (bits 8 2 ∷ bits 8 9 ∷ []) ≡ goes 0 (bits 8 7 ∷ [])
left_stands_below = refl

less_with_a_sign : move (op.Two two.Lt 8 true) (bits 8 0xff ∷ bits 8 5 ∷ []) ≡ goes 0 (bits 1 0 ∷ [])
less_with_a_sign = refl

less_without : move (op.Two two.Lt 8 false) (bits 8 0xff ∷ bits 8 5 ∷ []) ≡ goes 0 (bits 1 1 ∷ [])
less_without = refl

-- a shift counts by the whole right operand: by 256 nothing is left
shift_past_the_width : move (op.Two two.Shl 8 false) (bits 16 256 ∷ bits 8 1 ∷ []) ≡ goes 0 (bits 8 0 ∷ [])
shift_past_the_width = refl

high_bits_stand_below : move (op.Join 4 8) (bits 8 0xcd ∷ bits 4 0xb ∷ []) ≡ goes 0 (bits 12 0xbcd ∷ [])
high_bits_stand_below = refl

test_of_zero : move (op.SkipIfZero 3) (bits 8 0 ∷ []) ≡ goes 3 []
test_of_zero = refl

test_of_two : move (op.SkipIfZero 3) (bits 8 2 ∷ []) ≡ goes 0 []
test_of_two = refl

second_from_the_top : move (op.Pick 1) (bits 8 7 ∷ bits 4 9 ∷ []) ≡ goes 0 (bits 4 9 ∷ bits 8 7 ∷ bits 4 9 ∷ [])
second_from_the_top = refl

first_argument_first : arguments (bits 8 2 ∷ bits 8 1 ∷ []) ≡ 1 ∷ 2 ∷ []
first_argument_first = refl

-- ---- four elements with the words 4 to 7, by an address of 4 bits with a sign, from -1 on

abbrev row : Elements
row = record { base = 4; stride = 1; count = 4; address = record { signed = true; low = negsuc 0 } }

first_element : word_at row (bits 4 15) ≡ Some 4
first_element = refl

last_element : word_at row (bits 4 2) ≡ Some 7
last_element = refl

past_the_last : word_at row (bits 4 3) ≡ None
past_the_last = refl

below_the_first : word_at row (bits 4 14) ≡ None
below_the_first = refl

nothing_is_loaded : move (op.LoadAt row 8) (bits 4 3 ∷ []) ≡ goes 0 (bits 8 0 ∷ [])
nothing_is_loaded = refl

nothing_is_stored : move (op.StoreAt row 8) (bits 4 3 ∷ bits 8 1 ∷ []) ≡ goes 0 []
nothing_is_stored = refl

-- ---- word 3 is given the sum of the words 1 and 2

abbrev adds : Ops
adds = record { ops = op.Load 1 8 ∷ op.Load 2 8 ∷ op.Two two.Add 8 false ∷ op.Store 3 8 ∷ []; stack = 2 }

asks_the_left : asked adds [] ≡ ask.Load 1
asks_the_left = refl

asks_the_right : asked adds (0xff ∷ []) ≡ ask.Load 2
asks_the_right = refl

stores_the_sum : asked adds (0xff ∷ 0xff ∷ []) ≡ ask.Store 3 0xfe
stores_the_sum = refl

is_done : asked adds (0xff ∷ 0xff ∷ 0xfe ∷ []) ≡ ask.Done
is_done = refl

-- a store that is skipped is not asked for
skips_the_store : asked (record { ops = op.Push (bits 1 0) ∷ op.SkipIfZero 2 ∷ op.Push (bits 1 1) ∷ op.Store 3 1 ∷ []; stack = 1 }) [] ≡ ask.Done
skips_the_store = refl

abbrev outside : List ℕ → List Deed → Outside
outside words made = record { words = words; fixed = []; state = []; ids = []; widths = []; made = Some made }

runs_to_the_sum : (answer : Answer) (after : After) → run answer after (course_of adds) (outside (0 ∷ 5 ∷ 6 ∷ 0 ∷ []) []) ≡ outside (0 ∷ 5 ∷ 6 ∷ 11 ∷ []) (stored 3 11 ∷ [])
runs_to_the_sum answer after = refl

adds_is_sound : IsSound 2 adds.ops
adds_is_sound = (
  record { enough = omega arith; room = omega arith; shaped = (omega arith, omega arith) },
  (
    record { enough = omega arith; room = omega arith; shaped = (omega arith, omega arith) },
    (
      record { enough = omega arith; room = omega arith; shaped = (omega arith, omega arith) },
      (record { enough = omega arith; room = omega arith; shaped = (omega arith, omega arith) }, refl),
    ),
  ),
)

-- one value of room is too little, and so is a jump past the end
adds_needs_two : IsSound 1 adds.ops → ⊥
adds_needs_two s = (let h = s.1.0.room in omega arith)

no_jump_past_the_end : IsSound 1 (op.Skip 1 ∷ []) → ⊥
no_jump_past_the_end s = (let h = s.1 in omega arith)
