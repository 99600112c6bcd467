-- Numbers of processes, and how many nodes a part has.
use Rattle.std.proofs.Common.{◌≡◌, ◌+◌, ◌<◌, ℕ, suc, List, [], ◌∷◌, ◌++◌, length, get_or, take, map, Bool, true, false, not, cond, count_by, refl, sym, ap, ◌∙◌, arith, length-append, zero-add}
use Rattle.std.proofs.lemmas.List.{length-map, length-take, take_more}
use Rattle.std.proofs.Math.Bool.{beq}
use Rattle.std.proofs.lemmas.List.Sums.{sum_by-cons}
use Rattle.plan_graph.specs.declared.node.Node.TheVariants.{Comb, Body, Commit}
use Rattle.plan_graph.specs.declared.node.Part.{Part}
use Rattle.plan_graph.specs.declared.node.Part.TheVariants.{Settle, Clocked}
use Rattle.order_levels.specs.Serial.{numbers_from, comb_procs, clocked_procs, settle_nodes, clocked_nodes, clocked_count, serial_nodes, node_count}

-- one process more
from_push : (at : ℕ) (passes : Bool → Bool) (clocked : List Bool) (c : Bool)
    → numbers_from at passes (clocked ++ c ∷ []) ≡ numbers_from at passes clocked ++ cond (passes c) ((at + length clocked) ∷ []) []
from_push at passes [] c = by_test (passes c)
  where
    by_test : (b : Bool) → cond b (at ∷ []) [] ≡ cond b ((at + 0) ∷ []) []
    by_test true = ap (λ k. k ∷ []) (omega arith)
    by_test false = refl
from_push at passes (x ∷ clocked) c = by_test (passes x) (from_push (suc at) passes clocked c ∙ shift)
  where
    shift : numbers_from (suc at) passes clocked ++ cond (passes c) ((suc at + length clocked) ∷ []) [] ≡ numbers_from (suc at) passes clocked ++ cond (passes c) ((at + suc (length clocked)) ∷ []) []
    shift = let e : suc at + length clocked ≡ at + suc (length clocked) = omega arith in ap (λ k. numbers_from (suc at) passes clocked ++ cond (passes c) (k ∷ []) []) e

    by_test : (b : Bool) → numbers_from (suc at) passes (clocked ++ c ∷ []) ≡ numbers_from (suc at) passes clocked ++ cond (passes c) ((at + suc (length clocked)) ∷ []) []
        → cond b (at ∷ numbers_from (suc at) passes (clocked ++ c ∷ [])) (numbers_from (suc at) passes (clocked ++ c ∷ []))
        ≡ cond b (at ∷ numbers_from (suc at) passes clocked) (numbers_from (suc at) passes clocked) ++ cond (passes c) ((at + suc (length clocked)) ∷ []) []
    by_test true others = ap (λ (xs : List ℕ). at ∷ xs) others
    by_test false others = others

pub numbers_push : (passes : Bool → Bool) (clocked : List Bool) (c : Bool)
    → numbers_from 0 passes (clocked ++ c ∷ []) ≡ numbers_from 0 passes clocked ++ cond (passes c) (length clocked ∷ []) []
numbers_push passes clocked c = from_push 0 passes clocked c ∙ ap (λ k. numbers_from 0 passes clocked ++ cond (passes c) (k ∷ []) []) (zero-add (length clocked))

-- one process more, of those that are taken
pub numbers_more : (kind : Bool) (clocked : List Bool) (i : ℕ) → i < length clocked
    → cond kind (clocked_procs (take (i + 1) clocked)) (comb_procs (take (i + 1) clocked))
    ≡ cond kind (clocked_procs (take i clocked)) (comb_procs (take i clocked)) ++ cond (beq (get_or clocked i false) kind) (i ∷ []) []
numbers_more kind clocked i within = by_kind kind
  where
    len : length (take i clocked) ≡ i
    len = let all = length-take i clocked in omega arith

    by_kind : (kind : Bool) → cond kind (clocked_procs (take (i + 1) clocked)) (comb_procs (take (i + 1) clocked))
        ≡ cond kind (clocked_procs (take i clocked)) (comb_procs (take i clocked)) ++ cond (beq (get_or clocked i false) kind) (i ∷ []) []
    by_kind true =
        ap clocked_procs (take_more clocked i false within) ∙ numbers_push (λ c. c) (take i clocked) (get_or clocked i false)
        ∙ (λ j. clocked_procs (take i clocked) ++ cond (same (get_or clocked i false) j) (len j ∷ []) [])
      where
        same : (c : Bool) → c ≡ beq c true
        same true = refl
        same false = refl
    by_kind false =
        ap comb_procs (take_more clocked i false within) ∙ numbers_push not (take i clocked) (get_or clocked i false)
        ∙ (λ j. comb_procs (take i clocked) ++ cond (same (get_or clocked i false) j) (len j ∷ []) [])
      where
        same : (c : Bool) → not c ≡ beq c false
        same true = refl
        same false = refl

-- how many there are
from_length : (at : ℕ) (passes : Bool → Bool) (clocked : List Bool) → length (numbers_from at passes clocked) ≡ count_by passes clocked
from_length at passes [] = refl
from_length at passes (c ∷ clocked) = by_test (from_length (suc at) passes clocked) (passes c) ∙ sym (sum_by-cons (λ d. cond (passes d) 1 0) c clocked)
  where
    by_test : length (numbers_from (suc at) passes clocked) ≡ count_by passes clocked → (b : Bool) → length (cond b (at ∷ numbers_from (suc at) passes clocked) (numbers_from (suc at) passes clocked)) ≡ cond b 1 0 + count_by passes clocked
    by_test others true = omega arith
    by_test others false = omega arith

pub numbers_length : (passes : Bool → Bool) (clocked : List Bool) → length (numbers_from 0 passes clocked) ≡ count_by passes clocked
numbers_length passes clocked = from_length 0 passes clocked

pub both_kinds : (clocked : List Bool) → length (clocked_procs clocked) + length (comb_procs clocked) ≡ length clocked
both_kinds clocked = (λ i. numbers_length (λ c. c) clocked i + numbers_length not clocked i) ∙ each clocked
  where
    each : (clocked : List Bool) → count_by (λ c. c) clocked + count_by not clocked ≡ length clocked
    each [] = refl
    each (c ∷ clocked) =
        let here = sum_by-cons (λ d. cond d 1 0) c clocked in
        let there = sum_by-cons (λ d. cond (not d) 1 0) c clocked in
        let others = each clocked in
        let one = by_kind c in
        omega arith
      where
        by_kind : (c : Bool) → cond c 1 0 + cond (not c) 1 0 ≡ 1
        by_kind true = refl
        by_kind false = refl

-- the count of a part is the length of its list
pub serial_length : (clocked : List Bool) (order : List ℕ) (part : Part) → length (serial_nodes clocked order part) ≡ node_count (length (clocked_procs clocked)) (length order) part
serial_length clocked order Settle = length-map order (λ k. Comb (get_or (comb_procs clocked) k 0))
serial_length clocked order Clocked = by_procs (clocked_procs clocked)
  where
    settle : length (settle_nodes (comb_procs clocked) order) ≡ length order
    settle = length-map order (λ k. Comb (get_or (comb_procs clocked) k 0))

    by_procs : (procs : List ℕ) → length (clocked_nodes procs (settle_nodes (comb_procs clocked) order)) ≡ clocked_count (length procs) (length order)
    by_procs [] = refl
    by_procs (p ∷ procs) =
        length-append (map Body (p ∷ procs) ++ map Commit (p ∷ procs)) (settle_nodes (comb_procs clocked) order)
        ∙ (λ i. both i + settle i)
      where
        both : length (map Body (p ∷ procs) ++ map Commit (p ∷ procs)) ≡ suc (length procs) + suc (length procs)
        both = length-append (map Body (p ∷ procs)) (map Commit (p ∷ procs)) ∙ (λ i. length-map (p ∷ procs) Body i + length-map (p ∷ procs) Commit i)
