-- Laws of runs, for the proofs of this crate and of those above it.
use Rattle.std.proofs.Common.{◌≡◌, ℕ, zero, suc, ◌+◌, ◌-◌, ◌≤◌, List, [], ◌∷◌, ◌++◌, length, length-drop, drop, refl, sym, ap, ◌∙◌, arith}
use Rattle.std.proofs.Math.Seq.{drop-length}
use Rattle.std.proofs.lemmas.List.{drop-drop}
use Rattle.vs_base.specs.Number.{Number}
use Rattle.task_eval.specs.declared.op.Op.{Op}
use Rattle.task_eval.specs.Course.{course}
use Rattle.task_eval.specs.Frames.{last}

-- a skip leaves what follows
pub course_skip : (n : ℕ) (ops : List Op) (stack : List Number) → course ops n stack ≡ course (drop n ops) 0 stack
course_skip zero [] stack = refl
course_skip zero (o ∷ more) stack = refl
course_skip (suc n) [] stack = refl
course_skip (suc n) (o ∷ more) stack = course_skip n more stack

-- ops that are skipped whole do nothing
pub course_past : (ops more : List Op) (skip : ℕ) (stack : List Number) → course (ops ++ more) (length ops + skip) stack ≡ course more skip stack
course_past [] more skip stack = (let e : 0 + skip ≡ skip = omega arith in ap (λ n. course more n stack) e)
course_past (o ∷ ops) more skip stack =
    let e : length (o ∷ ops) + skip ≡ suc (length ops + skip) = omega arith in
    ap (λ n. course (o ∷ (ops ++ more)) n stack) e ∙ course_past ops more skip stack

-- the last ops

drop_none : (ops : List Op) → drop 0 ops ≡ ops
drop_none [] = refl
drop_none (o ∷ ops) = refl

pub last_none : (ops : List Op) → last 0 ops ≡ []
last_none ops = let e : length ops - 0 ≡ length ops = omega arith in ap (λ (n : ℕ). drop n ops) e ∙ drop-length ops

pub last_all : (ops : List Op) → last (length ops) ops ≡ ops
last_all ops = let e : length ops - length ops ≡ 0 = omega arith in ap (λ (n : ℕ). drop n ops) e ∙ drop_none ops

pub length-last : (left : ℕ) (ops : List Op) → left ≤ length ops → length (last left ops) ≡ left
length-last left ops h = length-drop (length ops - left) ops ∙ omega arith

-- the last of the last ops
pub last_last : (few left : ℕ) (ops : List Op) → few ≤ left → left ≤ length ops → last few (last left ops) ≡ last few ops
last_last few left ops h k =
    let e : length ops - left + (left - few) ≡ length ops - few = omega arith in
    ap (λ n. drop (n - few) (last left ops)) (length-last left ops k) ∙ drop-drop (left - few) (length ops - left) ops ∙ ap (λ n. drop n ops) e

-- what is left of the last ops after some of them
pub last_drop : (k : ℕ) (rest ops : List Op) → k ≤ length rest → length rest ≤ length ops → rest ≡ last (length rest) ops → drop k rest ≡ last (length rest - k) ops
last_drop k rest ops h within is =
    let e : length rest - (length rest - k) ≡ k = omega arith in
    let same : last (length rest - k) rest ≡ last (length rest - k) (last (length rest) ops) = ap (last (length rest - k)) is in
    sym (ap (λ n. drop n rest) e) ∙ same ∙ last_last (length rest - k) (length rest) ops (omega arith) within
