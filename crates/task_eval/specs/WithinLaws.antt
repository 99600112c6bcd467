-- A code that names only words and imports that are there asks for no others.
use Rattle.std.proofs.Common.{ℕ, zero, suc, ◌+◌, ◌*◌, ◌<◌, List, [], ◌∷◌, drop, sym, subst, Option, Some, None, cond, ℤ, pos, negsuc, inl, inr}
use Rattle.std.proofs.lemmas.Bool.{le-ltb, lt-ltb, cases_lt}
use Rattle.vs_base.specs.Number.{Number}
use Rattle.task_eval.specs.declared.op.Op.{Op}
use Rattle.task_eval.specs.declared.op.Op.TheVariants as op
use Rattle.task_eval.specs.declared.index.Elements.{Elements}
use Rattle.task_eval.specs.Places.{word_in, word_at}
use Rattle.task_eval.specs.Moves.{Move, on_one, on_two, on_three, load_at, store_at, move}
use Rattle.task_eval.specs.Course.{Course, from, course, asks}
use Rattle.task_eval.specs.Soundness.{OpWithin, IsWithin}
use Rattle.task_eval.specs.Frames.{IsAskedWithin}

-- of ops that are within, those that follow some are
pub within_drop : (words imports n : ℕ) (ops : List Op) → IsWithin words imports ops → IsWithin words imports (drop n ops)
within_drop words imports zero [] h = h
within_drop words imports zero (o ∷ more) h = h
within_drop words imports (suc n) [] h = h
within_drop words imports (suc n) (o ∷ more) h = within_drop words imports n more h.1

abbrev IsBelow : ℕ → Option ℕ → Type 0
IsBelow words (Some word) = word < words
IsBelow words None = Unit {0}

word_in_below : (words : ℕ) (e : Elements) (z : ℤ) → ((k : ℕ) → k < e.count → e.base + k * e.stride < words) → IsBelow words (word_in e z)
word_in_below words e (pos k) h =
    elim (cases_lt k e.count) [ inl lt ↦ subst (λ b. IsBelow words (cond b (Some (e.base + k * e.stride)) None)) (sym (lt-ltb k e.count lt)) (h k lt) | inr le ↦ subst (λ b. IsBelow words (cond b (Some (e.base + k * e.stride)) None)) (sym (le-ltb k e.count le)) tt ]
word_in_below words e (negsuc k) h = tt

module _ (words imports : ℕ) (go : ℕ → List Number → Course) where
  abbrev Fine : Move → Type 0
  Fine m = IsAskedWithin words imports (asks (from m go))

  abbrev AllFine : Type 0
  AllFine = (skip : ℕ) (stack : List Number) → IsAskedWithin words imports (asks (go skip stack))

  fine_one : (stack : List Number) (act : Number → List Number → Move) → AllFine → ((a : Number) (rest : List Number) → Fine (act a rest)) → Fine (on_one stack act)
  fine_one [] act f g = f 0 []
  fine_one (a ∷ rest) act f g = g a rest

  fine_two : (stack : List Number) (act : Number → Number → List Number → Move) → AllFine → ((b a : Number) (rest : List Number) → Fine (act b a rest)) → Fine (on_two stack act)
  fine_two stack act f g = fine_one stack (λ b more. on_one more (act b)) f (λ b more. fine_one more (act b) f (g b))

  fine_three : (stack : List Number) (act : Number → Number → Number → List Number → Move) → AllFine → ((d b a : Number) (rest : List Number) → Fine (act d b a rest)) → Fine (on_three stack act)
  fine_three stack act f g = fine_one stack (λ d more. on_two more (act d)) f (λ d more. fine_two more (act d) f (g d))

  fine_load : (o : Option ℕ) (width : ℕ) (rest : List Number) → IsBelow words o → AllFine → Fine (load_at o width rest)
  fine_load (Some word) width rest h f = h
  fine_load None width rest h f = f 0 _

  fine_store : (o : Option ℕ) (value : ℕ) (rest : List Number) → IsBelow words o → AllFine → Fine (store_at o value rest)
  fine_store (Some word) value rest h f = h
  fine_store None value rest h f = f 0 rest

  fine_move : (o : Op) (stack : List Number) → OpWithin words imports o → AllFine → Fine (move o stack)
  fine_move (op.Push n) stack h f = f 0 _
  fine_move (op.Load word width) stack h f = h
  fine_move (op.LoadAt e width) stack h f = fine_one stack _ f (λ a rest. fine_load (word_at e a) width rest (word_in_below words e _ h) f)
  fine_move (op.Store word width) stack h f = fine_one stack _ f (λ a rest. h)
  fine_move (op.StoreAt e width) stack h f = fine_two stack _ f (λ b a rest. fine_store (word_at e b) _ rest (word_in_below words e _ h) f)
  fine_move (op.Slice at width) stack h f = fine_one stack _ f (λ a rest. f 0 _)
  fine_move (op.SliceAt i width) stack h f = fine_two stack _ f (λ b a rest. f 0 _)
  fine_move (op.Place at) stack h f = fine_two stack _ f (λ b a rest. f 0 _)
  fine_move (op.PlaceAt i) stack h f = fine_three stack _ f (λ d b a rest. f 0 _)
  fine_move (op.Extend width signed) stack h f = fine_one stack _ f (λ a rest. f 0 _)
  fine_move (op.One o) stack h f = fine_one stack _ f (λ a rest. f 0 _)
  fine_move (op.Two o width signed) stack h f = fine_two stack _ f (λ b a rest. f 0 _)
  fine_move (op.Join high low) stack h f = fine_two stack _ f (λ b a rest. f 0 _)
  fine_move (op.Repeat times width) stack h f = fine_one stack _ f (λ a rest. f 0 _)
  fine_move (op.Pick below) stack h f = f 0 _
  fine_move op.Drop stack h f = fine_one stack _ f (λ a rest. f 0 rest)
  fine_move (op.Skip n) stack h f = f n stack
  fine_move (op.SkipIfZero n) stack h f = fine_one stack _ f (λ a rest. f _ rest)
  fine_move (op.SkipIfTrue n) stack h f = fine_one stack _ f (λ a rest. f _ rest)
  fine_move (op.Call import count width) stack h f = h

-- what a run of such ops asks is there
pub asks_within : (words imports : ℕ) (ops : List Op) (skip : ℕ) (stack : List Number) → IsWithin words imports ops → IsAskedWithin words imports (asks (course ops skip stack))
asks_within words imports [] skip stack h = tt
asks_within words imports (o ∷ more) (suc skip) stack h = asks_within words imports more skip stack h.1
asks_within words imports (o ∷ more) zero stack h = fine_move words imports (course more) o stack h.0 (λ skip rest. asks_within words imports more skip rest h.1)
