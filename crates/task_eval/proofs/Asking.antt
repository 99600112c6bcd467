-- A frame at the beginning of a code, and what it asks for.
use Rattle.std.proofs.Common.{◌≡◌, ℕ, ◌-◌, ◌≤◌, List, [], length, sym, ap, ◌∙◌, subst, arith}
use Rattle.task_eval.specs.declared.op.Op.{Op}
use Rattle.task_eval.specs.declared.frame.Ask.{Ask}
use Rattle.task_eval.specs.Codes.{Ops}
use Rattle.task_eval.specs.Course.{course, course_of, asks}
use Rattle.task_eval.specs.Soundness.{IsSoundFrom, IsSound, IsWithin}
use Rattle.task_eval.specs.SoundLaws.{sound_more}
use Rattle.task_eval.specs.CourseLaws.{last_all}
use Rattle.task_eval.specs.WithinLaws.{asks_within, within_drop}
use Rattle.task_eval.specs.Frames.{Running, last, going, IsReady, IsAskedWithin}

-- a frame at the beginning of a code

pub starts_ready : (code : Ops) (f : Running) → IsSound code.stack code.ops → code.stack ≤ f.room → f.left ≡ length code.ops → f.stack ≡ [] → IsReady code f
starts_ready code f sound room left stack =
    let whole : last f.left code.ops ≡ code.ops = ap (λ (n : ℕ). last n code.ops) left ∙ last_all code.ops in
    let empty : 0 ≡ length f.stack = sym (ap length stack) in
    let more : IsSoundFrom f.room code.ops 0 0 = sound_more code.stack f.room code.ops 0 0 room sound in
    record {
      within = omega arith;
      sound = subst (λ (ops : List Op). IsSoundFrom f.room ops 0 (length f.stack)) (sym whole) (subst (IsSoundFrom f.room code.ops 0) empty more);
    }

pub starts_going : (code : Ops) (f : Running) → f.left ≡ length code.ops → f.stack ≡ [] → going code f ≡ course_of code
starts_going code f left stack =
    ap (λ (n : ℕ). course (last n code.ops) 0 f.stack) left ∙ ap (λ (ops : List Op). course ops 0 f.stack) (last_all code.ops) ∙ ap (course code.ops 0) stack

-- what is asked for is there
asked_within : (words imports : ℕ) (code : Ops) (f : Running) → IsWithin words imports code.ops → IsAskedWithin words imports (asks (going code f))
asked_within words imports code f h = asks_within words imports (last f.left code.ops) 0 f.stack (within_drop words imports (length code.ops - f.left) code.ops h)

pub asked_there : (words imports : ℕ) (code : Ops) (f : Running) (a : Ask) → a ≡ asks (going code f) → IsWithin words imports code.ops → IsAskedWithin words imports a
asked_there words imports code f a e h = subst (IsAskedWithin words imports) (sym e) (asked_within words imports code f h)
