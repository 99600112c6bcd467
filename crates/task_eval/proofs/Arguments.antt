-- Arguments that are taken from the stack, the last one first.
use Rattle.std.proofs.Common.{◌≡◌, ℕ, zero, suc, ◌-◌, ◌<◌, ◌≤◌, ◌%◌, ◌^◌, List, [], ◌∷◌, ◌++◌, length, take, drop, map, set, refl, sym, ap, ◌∙◌, arith}
use Rattle.std.specs.Prelude.{reverse}
use Rattle.std.proofs.lemmas.List.{map-append, reverse-append}
use Rattle.vs_base.specs.Number.{Number}
use Rattle.task_eval.specs.Moves.{arguments}

arguments_more : (values : List Number) (v : Number) → arguments (values ++ v ∷ []) ≡ v.value % 2 ^ 64 ∷ arguments values
arguments_more values v = ap reverse (map-append (λ (n : Number). n.value % 2 ^ 64) values (v ∷ [])) ∙ reverse-append (map (λ (n : Number). n.value % 2 ^ 64) values) (v.value % 2 ^ 64 ∷ [])

-- one value more of a list
taken : (values rest : List Number) (k : ℕ) (v : Number) → drop k values ≡ v ∷ rest → take (suc k) values ≡ take k values ++ v ∷ []
taken [] rest zero v e = absurd (cc)
taken [] rest (suc k) v e = absurd (cc)
taken (x ∷ values) rest zero v e = (let h : x ≡ v = cc in ap (λ (n : Number). n ∷ []) h)
taken (x ∷ values) rest (suc k) v e = ap (λ (l : List Number). x ∷ l) (taken values rest k v e)

left_over : (values rest : List Number) (k : ℕ) (v : Number) → drop k values ≡ v ∷ rest → drop (suc k) values ≡ rest
left_over [] rest zero v e = absurd (cc)
left_over [] rest (suc k) v e = absurd (cc)
left_over (x ∷ []) rest zero v e = cc
left_over (x ∷ (y ∷ values)) rest zero v e = cc
left_over (x ∷ values) rest (suc k) v e = left_over values rest k v e

-- a number is put before those that stand from a place on
put_before : (args : List ℕ) (count left x : ℕ) → left < count → count ≤ length args → drop left (take count (set args left x)) ≡ x ∷ drop (suc left) (take count args)
put_before [] count left x h k = absurd (omega arith)
put_before (a ∷ args) zero left x h k = absurd (omega arith)
put_before (a ∷ args) (suc count) zero x h k = refl
put_before (a ∷ args) (suc count) (suc left) x h k = put_before args count left x (omega arith) (omega arith)

-- one argument more: `left` were left to take, and one less is
pub args_step : (values rest : List Number) (args : List ℕ) (v : Number) (count left : ℕ) → 0 < left → left ≤ count → count ≤ length args
    → drop (count - left) values ≡ v ∷ rest → drop left (take count args) ≡ arguments (take (count - left) values)
    → drop (left - 1) (take count (set args (left - 1) (v.value % 2 ^ 64))) ≡ arguments (take (count - (left - 1)) values)
args_step values rest args v count left some within fits here have =
    let next : count - (left - 1) ≡ suc (count - left) = omega arith in
    let back : suc (left - 1) ≡ left = omega arith in
    put_before args count (left - 1) (v.value % 2 ^ 64) (omega arith) fits
    ∙ ap (λ (n : ℕ). v.value % 2 ^ 64 ∷ drop n (take count args)) back
    ∙ ap (λ (l : List ℕ). v.value % 2 ^ 64 ∷ l) have
    ∙ sym (arguments_more (take (count - left) values) v)
    ∙ ap arguments (sym (taken values rest (count - left) v here))
    ∙ ap (λ (n : ℕ). arguments (take n values)) (sym next)

pub stack_step : (values rest : List Number) (v : Number) (count left : ℕ) → 0 < left → left ≤ count → drop (count - left) values ≡ v ∷ rest → rest ≡ drop (count - (left - 1)) values
stack_step values rest v count left some within here =
    let next : count - (left - 1) ≡ suc (count - left) = omega arith in
    sym (ap (λ (n : ℕ). drop n values) next ∙ left_over values rest (count - left) v here)
