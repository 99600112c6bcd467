-- The codes of a model.
use Rattle.std.proofs.Common.{◌≡◌, ℕ, zero, suc, ◌≤◌, max, List, [], ◌∷◌, slice_get, Some, ap, subst, arith}
use Rattle.std.specs.List.{fold}
use Rattle.task_eval.specs.Codes.{Ops, deepest}
use Rattle.task_eval.specs.Soundness.{IsWithin}
use Rattle.plan_types.specs.Coded.{AllWithin}

abbrev deeper : ℕ → Ops → ℕ
deeper most code = max most code.stack

deeper_still : (codes : List Ops) (most : ℕ) → most ≤ fold deeper most codes
deeper_still [] most = omega arith
deeper_still (code ∷ more) most = (let h = deeper_still more (max most code.stack) in omega arith)

stack_from : (codes : List Ops) (most n : ℕ) (code : Ops) → slice_get codes n ≡ Some code → code.stack ≤ fold deeper most codes
stack_from [] most n code is = cc
stack_from (x ∷ more) most zero code is = (
    let same : x ≡ code = cc in
    let here : x.stack ≡ code.stack = ap (λ (o : Ops). o.stack) same in
    let h = deeper_still more (max most x.stack) in
    omega arith
    )
stack_from (x ∷ more) most (suc n) code is = stack_from more (max most x.stack) n code is

-- no code's stack is deeper than the deepest
pub stack_within : (codes : List Ops) (n : ℕ) (code : Ops) → slice_get codes n ≡ Some code → code.stack ≤ deepest codes
stack_within codes n code is = stack_from codes 0 n code is

pub within_at : (words imports : ℕ) (codes : List Ops) (n : ℕ) (code : Ops) → AllWithin words imports codes → slice_get codes n ≡ Some code → IsWithin words imports code.ops
within_at words imports [] n code all is = cc
within_at words imports (x ∷ more) zero code all is =
    let same : x ≡ code = cc in
    subst (λ (o : Ops). IsWithin words imports o.ops) same all.0
within_at words imports (x ∷ more) (suc n) code all is = within_at words imports more n code all.1 is
