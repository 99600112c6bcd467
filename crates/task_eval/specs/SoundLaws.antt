-- Laws of soundness, for the proofs of this crate and of those above it.
use Rattle.std.proofs.Common.{◌≡◌, ℕ, zero, suc, ◌+◌, ◌-◌, ◌<◌, ◌≤◌, List, [], ◌∷◌, ◌++◌, length, drop, refl, subst, arith, Option, Some, None, Bool, true, false, cond}
use Rattle.vs_base.specs.Number.{Number}
use Rattle.task_eval.specs.declared.op.Op.{Op}
use Rattle.task_eval.specs.declared.op.Op.TheVariants as op
use Rattle.task_eval.specs.Places.{word_at}
use Rattle.task_eval.specs.Moves.{Move, on_one, on_two, on_three, load_at, store_at, move}
use Rattle.task_eval.specs.Soundness.{takes, puts, IsWidth, IsFit, AllWays, IsSoundFrom, IsSoundMove}

-- what follows from the ways follows on each way
pub ways_map : (o : Op) (P Q : ℕ → Type 0) → ((n : ℕ) → P n → Q n) → AllWays o P → AllWays o Q
ways_map (op.Push n) P Q f w = f 0 w
ways_map (op.Load word width) P Q f w = f 0 w
ways_map (op.LoadAt e width) P Q f w = f 0 w
ways_map (op.Store word width) P Q f w = f 0 w
ways_map (op.StoreAt e width) P Q f w = f 0 w
ways_map (op.Slice at width) P Q f w = f 0 w
ways_map (op.SliceAt i width) P Q f w = f 0 w
ways_map (op.Place at) P Q f w = f 0 w
ways_map (op.PlaceAt i) P Q f w = f 0 w
ways_map (op.Extend width signed) P Q f w = f 0 w
ways_map (op.One o) P Q f w = f 0 w
ways_map (op.Two o width signed) P Q f w = f 0 w
ways_map (op.Join high low) P Q f w = f 0 w
ways_map (op.Repeat times width) P Q f w = f 0 w
ways_map (op.Pick below) P Q f w = f 0 w
ways_map op.Drop P Q f w = f 0 w
ways_map (op.Skip n) P Q f w = f n w
ways_map (op.SkipIfZero n) P Q f w = (f 0 w.0, f n w.1)
ways_map (op.SkipIfTrue n) P Q f w = (f 0 w.0, f n w.1)
ways_map (op.Call import count width) P Q f w = f 0 w

fit_more : (most room : ℕ) (o : Op) (depth : ℕ) → most ≤ room → IsFit most o depth → IsFit room o depth
fit_more most room o depth h fit = let r = fit.room in record { enough = fit.enough; room = omega arith; shaped = fit.shaped }

-- with more room a code stays sound
pub sound_more : (most room : ℕ) (ops : List Op) (skip depth : ℕ) → most ≤ room → IsSoundFrom most ops skip depth → IsSoundFrom room ops skip depth
sound_more most room [] skip depth h s = s
sound_more most room (o ∷ more) (suc skip) depth h s = sound_more most room more skip depth h s
sound_more most room (o ∷ more) zero depth h s = (
  fit_more most room o depth h s.0,
  ways_map o (λ n. IsSoundFrom most more n (depth - takes o + puts o)) (λ n. IsSoundFrom room more n (depth - takes o + puts o)) (λ n. sound_more most room more n (depth - takes o + puts o) h) s.1,
)

-- a skip lands within the ops or at their end
pub skip_within : (room : ℕ) (ops : List Op) (n depth : ℕ) → IsSoundFrom room ops n depth → n ≤ length ops
skip_within room [] n depth s = omega arith
skip_within room (o ∷ more) (suc n) depth s = let h = skip_within room more n depth s in omega arith
skip_within room (o ∷ more) zero depth s = omega arith

-- what follows a skip is sound
pub sound_skip : (room : ℕ) (ops : List Op) (n depth : ℕ) → IsSoundFrom room ops n depth → IsSoundFrom room (drop n ops) 0 depth
sound_skip room [] zero depth s = refl
sound_skip room [] (suc n) depth s = refl
sound_skip room (o ∷ more) zero depth s = s
sound_skip room (o ∷ more) (suc n) depth s = sound_skip room more n depth s

-- ops that are skipped whole need not be sound
pub sound_past : (room : ℕ) (ops more : List Op) (skip depth : ℕ) → IsSoundFrom room more skip depth → IsSoundFrom room (ops ++ more) (length ops + skip) depth
sound_past room [] more skip depth s = let e : skip ≡ 0 + skip = omega arith in subst (λ n. IsSoundFrom room more n depth) e s
sound_past room (o ∷ ops) more skip depth s =
    let e : suc (length ops + skip) ≡ length (o ∷ ops) + skip = omega arith in
    subst (λ n. IsSoundFrom room (o ∷ (ops ++ more)) n depth) e (sound_past room ops more skip depth s)

-- at an equal depth
at_depth : (room : ℕ) (more : List Op) (skip : ℕ) (d e : ℕ) → d ≡ e → IsSoundFrom room more skip d → IsSoundFrom room more skip e
at_depth room more skip d e same s = subst (IsSoundFrom room more skip) same s

-- a move that takes values from the stack is sound where it is on each value
with_one : (room : ℕ) (more : List Op) (stack : List Number) (act : Number → List Number → Move) → 1 ≤ length stack → ((a : Number) (rest : List Number) → length stack ≡ suc (length rest) → IsSoundMove room more (act a rest)) → IsSoundMove room more (on_one stack act)
with_one room more [] act some f = absurd (omega arith)
with_one room more (a ∷ rest) act some f = f a rest refl

with_two : (room : ℕ) (more : List Op) (stack : List Number) (act : Number → Number → List Number → Move) → 2 ≤ length stack → ((b a : Number) (rest : List Number) → length stack ≡ suc (suc (length rest)) → IsSoundMove room more (act b a rest)) → IsSoundMove room more (on_two stack act)
with_two room more [] act some f = absurd (omega arith)
with_two room more (b ∷ []) act some f = absurd (omega arith)
with_two room more (b ∷ (a ∷ rest)) act some f = f b a rest refl

with_three : (room : ℕ) (more : List Op) (stack : List Number) (act : Number → Number → Number → List Number → Move) → 3 ≤ length stack → ((d b a : Number) (rest : List Number) → length stack ≡ suc (suc (suc (length rest))) → IsSoundMove room more (act d b a rest)) → IsSoundMove room more (on_three stack act)
with_three room more [] act some f = absurd (omega arith)
with_three room more (d ∷ []) act some f = absurd (omega arith)
with_three room more (d ∷ (b ∷ [])) act some f = absurd (omega arith)
with_three room more (d ∷ (b ∷ (a ∷ rest))) act some f = f d b a rest refl

load_at_sound : (room : ℕ) (more : List Op) (o : Option ℕ) (width : ℕ) (rest : List Number) → IsWidth 64 width → length rest < room → IsSoundFrom room more 0 (suc (length rest)) → IsSoundMove room more (load_at o width rest)
load_at_sound room more (Some word) width rest w has s = record { is_width = w; has_room = has; goes_on = s }
load_at_sound room more None width rest w has s = s

store_at_sound : (room : ℕ) (more : List Op) (o : Option ℕ) (value : ℕ) (rest : List Number) → IsSoundFrom room more 0 (length rest) → IsSoundMove room more (store_at o value rest)
store_at_sound room more (Some word) value rest s = s
store_at_sound room more None value rest s = s

-- the two ways of a test
either_way : (room : ℕ) (more : List Op) (b : Bool) (x y : ℕ) (rest : List Number) → IsSoundFrom room more x (length rest) → IsSoundFrom room more y (length rest) → IsSoundFrom room more (cond b x y) (length rest)
either_way room more true x y rest s t = s
either_way room more false x y rest s t = t

-- an op that gives one value after so many were taken
gives_one : (room : ℕ) (more : List Op) (before taken rest : ℕ) → before ≡ taken + rest → IsSoundFrom room more 0 (before - taken + 1) → IsSoundFrom room more 0 (suc rest)
gives_one room more before taken rest e s = at_depth room more 0 (before - taken + 1) (suc rest) (omega arith) s

gives_none : (room : ℕ) (more : List Op) (skip before taken rest : ℕ) → before ≡ taken + rest → IsSoundFrom room more skip (before - taken + 0) → IsSoundFrom room more skip rest
gives_none room more skip before taken rest e s = at_depth room more skip (before - taken + 0) rest (omega arith) s

-- after an op that may be done, the move is sound
pub move_sound : (room : ℕ) (o : Op) (more : List Op) (stack : List Number) → IsSoundFrom room (o ∷ more) 0 (length stack) → IsSoundMove room more (move o stack)
move_sound room (op.Push n) more stack s = gives_one room more (length stack) 0 (length stack) (omega arith) s.1
move_sound room (op.Load word width) more stack s =
    let r = s.0.room in record { is_width = s.0.shaped; has_room = omega arith; goes_on = gives_one room more (length stack) 0 (length stack) (omega arith) s.1 }
move_sound room (op.LoadAt e width) more stack s =
    with_one room more stack _ s.0.enough (λ a rest h. let r = s.0.room in load_at_sound room more (word_at e a) width rest s.0.shaped.0 (omega arith) (gives_one room more (length stack) 1 (length rest) (omega arith) s.1))
move_sound room (op.Store word width) more stack s = with_one room more stack _ s.0.enough (λ a rest h. gives_none room more 0 (length stack) 1 (length rest) (omega arith) s.1)
move_sound room (op.StoreAt e width) more stack s =
    with_two room more stack _ s.0.enough (λ b a rest h. store_at_sound room more (word_at e b) _ rest (gives_none room more 0 (length stack) 2 (length rest) (omega arith) s.1))
move_sound room (op.Slice at width) more stack s = with_one room more stack _ s.0.enough (λ a rest h. gives_one room more (length stack) 1 (length rest) (omega arith) s.1)
move_sound room (op.SliceAt i width) more stack s = with_two room more stack _ s.0.enough (λ b a rest h. gives_one room more (length stack) 2 (length rest) (omega arith) s.1)
move_sound room (op.Place at) more stack s = with_two room more stack _ s.0.enough (λ b a rest h. gives_one room more (length stack) 2 (length rest) (omega arith) s.1)
move_sound room (op.PlaceAt i) more stack s = with_three room more stack _ s.0.enough (λ d b a rest h. gives_one room more (length stack) 3 (length rest) (omega arith) s.1)
move_sound room (op.Extend width signed) more stack s = with_one room more stack _ s.0.enough (λ a rest h. gives_one room more (length stack) 1 (length rest) (omega arith) s.1)
move_sound room (op.One o) more stack s = with_one room more stack _ s.0.enough (λ a rest h. gives_one room more (length stack) 1 (length rest) (omega arith) s.1)
move_sound room (op.Two o width signed) more stack s = with_two room more stack _ s.0.enough (λ b a rest h. gives_one room more (length stack) 2 (length rest) (omega arith) s.1)
move_sound room (op.Join high low) more stack s = with_two room more stack _ s.0.enough (λ b a rest h. gives_one room more (length stack) 2 (length rest) (omega arith) s.1)
move_sound room (op.Repeat times width) more stack s = with_one room more stack _ s.0.enough (λ a rest h. gives_one room more (length stack) 1 (length rest) (omega arith) s.1)
move_sound room (op.Pick below) more stack s =
    let r = s.0.enough in at_depth room more 0 (length stack - (below + 1) + (below + 2)) (suc (length stack)) (omega arith) s.1
move_sound room op.Drop more stack s = with_one room more stack _ s.0.enough (λ a rest h. gives_none room more 0 (length stack) 1 (length rest) (omega arith) s.1)
move_sound room (op.Skip n) more stack s = gives_none room more n (length stack) 0 (length stack) (omega arith) s.1
move_sound room (op.SkipIfZero n) more stack s =
    with_one room more stack _ s.0.enough (λ a rest h. either_way room more _ 0 n rest (gives_none room more 0 (length stack) 1 (length rest) (omega arith) s.1.0) (gives_none room more n (length stack) 1 (length rest) (omega arith) s.1.1))
move_sound room (op.SkipIfTrue n) more stack s =
    with_one room more stack _ s.0.enough (λ a rest h. either_way room more _ n 0 rest (gives_none room more n (length stack) 1 (length rest) (omega arith) s.1.1) (gives_none room more 0 (length stack) 1 (length rest) (omega arith) s.1.0))
move_sound room (op.Call import count width) more stack s =
    let r = s.0.room in let t = s.0.enough in
    (s.0.shaped.0, s.0.enough, record { is_width = s.0.shaped.1; has_room = omega arith; goes_on = at_depth room more 0 (length stack - count + 1) (suc (length stack - count)) (omega arith) s.1 })
