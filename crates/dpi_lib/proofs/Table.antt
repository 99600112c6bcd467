-- The table `imports`, by number.
use Rattle.std.proofs.Common.{◌≡◌, ◌≢◌, ℕ, zero, suc, ◌+◌, ◌-◌, ◌<◌, ◌≤◌, true, false, List, map, refl, sym, ap, ◌∙◌, arith, inl, inr}
use Rattle.std.specs.Prelude.{IsTrue, nat_lt}
use Rattle.std.proofs.lemmas.Bool.{cases_lt, lt-ltb, le-ltb}
use Rattle.std.proofs.lemmas.List.{get_or_past}
use Rattle.dpi_lib.specs.Library.{Import, alone, is_alone, answered, state_after, imports, import_at}

-- ---- the import of an equal number

pub answered_at : (id k : ℕ) → id ≡ k → (s : List ℕ) (a b : ℕ) → answered (import_at id) s a b ≡ answered (import_at k) s a b
answered_at id k is s a b = ap (λ (n : ℕ). answered (import_at n) s a b) is

pub state_after_at : (id k : ℕ) → id ≡ k → (s : List ℕ) (a b : ℕ) → state_after (import_at id) s a b ≡ state_after (import_at k) s a b
state_after_at id k is s a b = ap (λ (n : ℕ). state_after (import_at n) s a b) is

-- ---- by ranges

past_the_end : (id : ℕ) → 11 < id → import_at id ≡ alone (λ a b. 0)
unfolding import_at imports
past_the_end id h = get_or_past (map (λ row. row.1) imports) id (alone (λ a b. 0)) (omega arith)

low_alone : (id : ℕ) → id < 7 → is_alone (import_at id) ≡ true
unfolding import_at imports
low_alone zero h = refl
low_alone (suc zero) h = refl
low_alone (suc (suc zero)) h = refl
low_alone (suc (suc (suc zero))) h = refl
low_alone (suc (suc (suc (suc zero)))) h = refl
low_alone (suc (suc (suc (suc (suc zero))))) h = refl
low_alone (suc (suc (suc (suc (suc (suc zero)))))) h = refl
low_alone (suc (suc (suc (suc (suc (suc (suc id))))))) h = absurd (omega arith)

seventh_on : (k : ℕ) → k < 5 → is_alone (import_at (k + 7)) ≡ false
unfolding import_at imports
seventh_on zero h = refl
seventh_on (suc zero) h = refl
seventh_on (suc (suc zero)) h = refl
seventh_on (suc (suc (suc zero))) h = refl
seventh_on (suc (suc (suc (suc zero)))) h = refl
seventh_on (suc (suc (suc (suc (suc k))))) h = absurd (omega arith)

mid_stateful : (id : ℕ) → 7 ≤ id → id ≤ 11 → is_alone (import_at id) ≡ false
mid_stateful id low high = ap (λ (n : ℕ). is_alone (import_at n)) (omega arith) ∙ seventh_on (id - 7) (omega arith)

high_alone : (id : ℕ) → 11 < id → is_alone (import_at id) ≡ true
high_alone id h = ap is_alone (past_the_end id h)

-- the same as tests
pub is_alone-low : (id : ℕ) → id < 7 → nat_lt id 7 ≡ is_alone (import_at id)
is_alone-low id low = lt-ltb id 7 low ∙ sym (low_alone id low)

pub is_alone-from_seven : (id : ℕ) → 7 ≤ id → nat_lt 11 id ≡ is_alone (import_at id)
is_alone-from_seven id low =
    elim (cases_lt 11 id) [
      | inl high ↦ lt-ltb 11 id high ∙ sym (high_alone id high)
      | inr mid ↦ le-ltb 11 id mid ∙ sym (mid_stateful id low mid)
    ]

pub others_alone : (id : ℕ) → id ≢ 7 → id ≢ 8 → id ≢ 9 → id ≢ 10 → id ≢ 11 → is_alone (import_at id) ≡ true
others_alone id a b d e f =
    elim (cases_lt id 7) [ inl low ↦ low_alone id low | inr high ↦ high_alone id (omega arith) ]

-- an import that is by its arguments alone, and none of the seven, answers 0
pub rest_answers : (id : ℕ) → 7 ≤ id → IsTrue (is_alone (import_at id)) → (s : List ℕ) (a b : ℕ) → answered (import_at id) s a b ≡ 0
rest_answers id low told s a b =
    elim (cases_lt 11 id) [
      | inl high ↦ ap (λ (i : Import). answered i s a b) (past_the_end id high)
      | inr mid ↦ let lie : true ≡ false = sym told ∙ mid_stateful id low mid in cc
    ]
