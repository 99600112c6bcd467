-- A code whose ops keep to what may be touched has runs that do.
use Rattle.std.proofs.Common.{◌≡◌, ℕ, zero, suc, ◌+◌, ◌*◌, ◌<◌, ◌≤◌, ◌⊎◌, Bool, true, false, List, [], ◌∷◌, sym, subst, refl, Option, Some, None, cond, ℤ, pos, negsuc, inl, inr, arith}
use Rattle.std.specs.Prelude.{slice_get}
use Rattle.std.specs.List.{list_all}
use Rattle.std.proofs.lemmas.Bool.{and_parts, le-ltb, lt-ltb, cases_lt}
use Rattle.vs_base.specs.Number.{Number}
use Rattle.rtl_ir.specs.declared.whole.Design.{Design}
use Rattle.rtl_pieces.specs.declared.layout.Word.{Word}
use Rattle.plan_graph.specs.declared.node.Node.{Node}
use Rattle.task_eval.specs.declared.op.Op.{Op}
use Rattle.task_eval.specs.declared.op.Op.TheVariants as op
use Rattle.task_eval.specs.declared.index.Elements.{Elements}
use Rattle.task_eval.specs.Codes.{Ops}
use Rattle.task_eval.specs.Places.{word_in, word_at}
use Rattle.task_eval.specs.Moves.{Move, on_one, on_two, on_three, load_at, store_at, move}
use Rattle.task_eval.specs.Course.{Course, from, course}
use Rattle.plan_types.specs.Coded.{code_number}
use Rattle.plan_types.specs.Machine.{course_at, course_if}
use Rattle.plan_types.specs.Touches.{Touch, touch_of, all_below, op_keeps, code_keeps, keeps_to_its_own, Keeps}

below_all : (passes : ℕ → Bool) (n k : ℕ) → all_below passes n ≡ true → k < n → passes k ≡ true
below_all passes zero k all less = absurd (omega arith)
below_all passes (suc n) k all less = by_order (λ before. below_all passes n k (and_parts (passes n) (all_below passes n) all).1 before) (cases_lt k n)
  where
    by_order : (k < n → passes k ≡ true) → (k < n) ⊎ (n ≤ k) → passes k ≡ true
    by_order others (inl before) = others before
    by_order others (inr not_before) = let e : n ≡ k = omega (arith, less, not_before) in subst (λ m. passes m ≡ true) e (and_parts (passes n) (all_below passes n) all).0

abbrev Passes : (ℕ → Bool) → Option ℕ → Type 0
Passes passes (Some word) = passes word ≡ true
Passes passes None = Unit {0}

word_passes : (passes : ℕ → Bool) (e : Elements) (z : ℤ) → all_below (λ k. passes (e.base + k * e.stride)) e.count ≡ true → Passes passes (word_in e z)
word_passes passes e (pos k) all =
    elim (cases_lt k e.count) [ inl lt ↦ subst (λ b. Passes passes (cond b (Some (e.base + k * e.stride)) None)) (sym (lt-ltb k e.count lt)) (below_all (λ j. passes (e.base + j * e.stride)) e.count k all lt) | inr le ↦ subst (λ b. Passes passes (cond b (Some (e.base + k * e.stride)) None)) (sym (le-ltb k e.count le)) tt ]
word_passes passes e (negsuc k) all = tt

module _ (t : Touch) (go : ℕ → List Number → Course) where
  abbrev Fine : Move → Type 0
  Fine m = Keeps t (from m go)

  abbrev AllFine : Type 0
  AllFine = (skip : ℕ) (stack : List Number) → Keeps t (go skip stack)

  fine_one : (stack : List Number) (act : Number → List Number → Move) → AllFine → ((a : Number) (rest : List Number) → Fine (act a rest)) → Fine (on_one stack act)
  fine_one [] act f g = f 0 []
  fine_one (a ∷ rest) act f g = g a rest

  fine_two : (stack : List Number) (act : Number → Number → List Number → Move) → AllFine → ((b a : Number) (rest : List Number) → Fine (act b a rest)) → Fine (on_two stack act)
  fine_two stack act f g = fine_one stack (λ b more. on_one more (act b)) f (λ b more. fine_one more (act b) f (g b))

  fine_three : (stack : List Number) (act : Number → Number → Number → List Number → Move) → AllFine → ((d b a : Number) (rest : List Number) → Fine (act d b a rest)) → Fine (on_three stack act)
  fine_three stack act f g = fine_one stack (λ d more. on_two more (act d)) f (λ d more. fine_two more (act d) f (g d))

  fine_load : (o : Option ℕ) (width : ℕ) (rest : List Number) → Passes t.loads o → AllFine → Fine (load_at o width rest)
  fine_load (Some word) width rest h f = (h, λ v. f 0 _)
  fine_load None width rest h f = f 0 _

  fine_store : (o : Option ℕ) (value : ℕ) (rest : List Number) → Passes t.stores o → AllFine → Fine (store_at o value rest)
  fine_store (Some word) value rest h f = (h, f 0 rest)
  fine_store None value rest h f = f 0 rest

  fine_move : (o : Op) (stack : List Number) → op_keeps t o ≡ true → AllFine → Fine (move o stack)
  fine_move (op.Push n) stack h f = f 0 _
  fine_move (op.Load word width) stack h f = (h, λ v. f 0 _)
  fine_move (op.LoadAt e width) stack h f = fine_one stack _ f (λ a rest. fine_load (word_at e a) width rest (word_passes t.loads e _ h) f)
  fine_move (op.Store word width) stack h f = fine_one stack _ f (λ a rest. (h, f 0 rest))
  fine_move (op.StoreAt e width) stack h f = fine_two stack _ f (λ b a rest. fine_store (word_at e b) _ rest (word_passes t.stores e _ h) f)
  fine_move (op.Slice at width) stack h f = fine_one stack _ f (λ a rest. f 0 _)
  fine_move (op.SliceAt i width) stack h f = fine_two stack _ f (λ b a rest. f 0 _)
  fine_move (op.Place at) stack h f = fine_two stack _ f (λ b a rest. f 0 _)
  fine_move (op.PlaceAt i) stack h f = fine_three stack _ f (λ d b a rest. f 0 _)
  fine_move (op.Extend width signed) stack h f = fine_one stack _ f (λ a rest. f 0 _)
  fine_move (op.One o) stack h f = fine_one stack _ f (λ a rest. f 0 _)
  fine_move (op.Two o width signed) stack h f = fine_two stack _ f (λ b a rest. f 0 _)
  fine_move (op.Join high low) stack h f = fine_two stack _ f (λ b a rest. f 0 _)
  fine_move (op.Repeat times width) stack h f = fine_one stack _ f (λ a rest. f 0 _)
  fine_move (op.Pick below) stack h f = f 0 _
  fine_move op.Drop stack h f = fine_one stack _ f (λ a rest. f 0 rest)
  fine_move (op.Skip n) stack h f = f n stack
  fine_move (op.SkipIfZero n) stack h f = fine_one stack _ f (λ a rest. f _ rest)
  fine_move (op.SkipIfTrue n) stack h f = fine_one stack _ f (λ a rest. f _ rest)
  fine_move (op.Call import count width) stack h f = (h, λ v. f 0 _)

ops_keep : (t : Touch) (ops : List Op) (skip : ℕ) (stack : List Number) → list_all (op_keeps t) ops ≡ true → Keeps t (course ops skip stack)
ops_keep t [] skip stack h = tt
ops_keep t (o ∷ more) (suc skip) stack h = ops_keep t more skip stack (and_parts (op_keeps t o) (list_all (op_keeps t) more) h).1
ops_keep t (o ∷ more) zero stack h =
    let parts = and_parts (op_keeps t o) (list_all (op_keeps t) more) h in
    fine_move t (course more) o stack parts.0 (λ skip rest. ops_keep t more skip rest parts.1)

-- the course of a node touches only what the node may touch
pub node_keeps : (design : Design) (words : List Word) (codes : List Ops) (n : Node) → keeps_to_its_own design words codes n ≡ true → Keeps (touch_of design words n) (course_at codes (code_number design.procs n))
node_keeps design words codes n h = by_code (slice_get codes (code_number design.procs n)) h
  where
    by_code : (code : Option Ops) → code_keeps (touch_of design words n) code ≡ true → Keeps (touch_of design words n) (course_if code)
    by_code (Some code) h = ops_keep (touch_of design words n) code.ops 0 [] h
    by_code None h = tt
