-- What the first op does to what is left of a run.
use Rattle.std.proofs.Common.{◌≡◌, ℕ, suc, ◌+◌, ◌-◌, ◌<◌, ◌≤◌, List, [], ◌∷◌, length, drop, get_or, refl, sym, ap, ◌∙◌, subst, arith}
use Rattle.vs_base.specs.Number.{Number}
use Rattle.task_eval.specs.declared.op.Op.{Op}
use Rattle.task_eval.specs.declared.step.Step.{Step}
use Rattle.task_eval.specs.declared.step.Step.TheVariants as step
use Rattle.task_eval.specs.Moves.{Move, goes, move}
use Rattle.task_eval.specs.Course.{from, course}
use Rattle.task_eval.specs.Soundness.{IsFit, IsSoundFrom, IsSoundMove}
use Rattle.task_eval.specs.SoundLaws.{move_sound, skip_within, sound_skip}
use Rattle.task_eval.specs.CourseLaws.{course_skip, last_drop}
use Rattle.task_eval.specs.Frames.{last, IsLeft}

-- the first op may be done
pub first_fits : (room : ℕ) (rest : List Op) (d : Op) (depth : ℕ) → 0 < length rest → IsSoundFrom room rest 0 depth → IsFit room (get_or rest 0 d) depth
first_fits room [] d depth some s = absurd (omega arith)
first_fits room (o ∷ more) d depth some s = s.0

-- after a skip: the run goes on as it was, it is sound, and the skip lands within the ops
pub skipped : (room : ℕ) (rest : List Op) (d : Op) (before stack : List Number) (skip : ℕ) → 0 < length rest → goes skip stack ≡ move (get_or rest 0 d) before → IsSoundFrom room rest 0 (length before)
    → (course (drop (1 + skip) rest) 0 stack ≡ course rest 0 before) × IsSoundFrom room (drop (1 + skip) rest) 0 (length stack) × (1 + skip ≤ length rest)
skipped room [] d before stack skip some e s = absurd (omega arith)
skipped room (o ∷ more) d before stack skip some e s =
    let next : 1 + skip ≡ suc skip = omega arith in
    let m : IsSoundFrom room more skip (length stack) = subst (IsSoundMove room more) (sym e) (move_sound room o more before s) in
    let lands : skip ≤ length more = skip_within room more skip (length stack) m in (
      ap (λ (n : ℕ). course (drop n (o ∷ more)) 0 stack) next ∙ sym (course_skip skip more stack) ∙ ap (λ (k : Move). from k (course more)) e,
      subst (λ (n : ℕ). IsSoundFrom room (drop n (o ∷ more)) 0 (length stack)) (sym next) (sound_skip room more skip (length stack) m),
      omega arith,
    )

-- what is left of the last ops once the first was done
tail_is : (o : Op) (more ops : List Op) → length (o ∷ more) ≤ length ops → o ∷ more ≡ last (length (o ∷ more)) ops → more ≡ last (length (o ∷ more) - 1) ops
tail_is o more ops within is = drop_one o more ∙ last_drop 1 (o ∷ more) ops (omega arith) within is
  where
    drop_one : (p : Op) (rest : List Op) → rest ≡ drop 1 (p ∷ rest)
    drop_one p [] = refl
    drop_one p (q ∷ rest) = refl

-- at a halt after the first op: the run goes on from its move, and the move is sound
pub halted : (room : ℕ) (rest ops : List Op) (d : Op) (before : List Number) (m : Move) → 0 < length rest → length rest ≤ length ops → rest ≡ last (length rest) ops → m ≡ move (get_or rest 0 d) before → IsSoundFrom room rest 0 (length before)
    → (from m (course (last (length rest - 1) ops)) ≡ course rest 0 before) × IsSoundMove room (last (length rest - 1) ops) m
halted room [] ops d before m some within is e s = absurd (omega arith)
halted room (o ∷ more) ops d before m some within is e s =
    let tail = tail_is o more ops within is in (
      ap (λ (rest : List Op). from m (course rest)) (sym tail) ∙ ap (λ (k : Move). from k (course more)) e,
      subst (λ (rest : List Op). IsSoundMove room rest m) tail (subst (IsSoundMove room more) (sym e) (move_sound room o more before s)),
    )

-- where a step does not go on, fewer ops are left
pub left_fewer : (s : Step) (left before : ℕ) → ((skip : ℕ) → s ≡ step.Goes skip → ⊥) → left < before → IsLeft s left before
left_fewer (step.Goes skip) left before halts few = absurd (halts skip refl)
left_fewer (step.Loads word width) left before halts few = few
left_fewer (step.Stores word value) left before halts few = few
left_fewer (step.Calls import count width) left before halts few = few
