-- From the sweep over the ranges of all processes to what is written twice.
use Rattle.std.proofs.Common.{◌≡◌, ℕ, ◌<◌, ◌≤◌, Bool, true, false, ◌&&◌, ltb, List, length, Option, Some, None, refl, sym, ap, ◌∙◌, subst, inl, inr}
use Rattle.std.specs.Prelude.{nat_lt, slice_get}
use Rattle.std.specs.List.Sorted.{IsPermutation, IsNonDecreasingBy}
use Rattle.std.proofs.lemmas.List.Sorted.{list_any-IsPermutation}
use Rattle.std.proofs.lemmas.Option.{slice_get_past}
use Rattle.std.proofs.lemmas.Bool.{cases_lt, and_parts, and_right, ltb-true, lt-ltb}
use Rattle.rtl_ir.specs.declared.design.Proc.{Proc}
use Rattle.rtl_pieces.specs.declared.owned.OwnedRange.{OwnedRange}
use Rattle.rtl_pieces.specs.Line.{Line, has}
use Rattle.rtl_pieces.specs.Bits.{named_left, writes}
use Rattle.rtl_pieces.specs.Owned.{first_place, owns, owned_by, Single, LeastShared, sweep}
use Rattle.rtl_pieces.proofs.Sweeping.{Outcome, sorted_from, swept_all}

module _ (line : Line) (procs : List Proc) where
  none_there : (p b : ℕ) → length procs ≤ p → writes line procs p b ≡ false
  none_there p b h = ap (λ (o : Option Proc). nat_lt b line.bits && has b (named_left line o)) (slice_get_past procs p h) ∙ and_right (nat_lt b line.bits) false refl

  counted : (p b : ℕ) → (nat_lt p (length procs) && writes line procs p b) ≡ writes line procs p b
  counted p b = elim (cases_lt p (length procs)) [
    | inl h ↦ ap (λ (x : Bool). x && writes line procs p b) (lt-ltb p (length procs) h)
    | inr h ↦ and_right (nat_lt p (length procs)) (writes line procs p b) (none_there p b h) ∙ sym (none_there p b h)
  ]

  module _ (all sorted : List OwnedRange) (owned : (p b : ℕ) → owned_by p b all ≡ (nat_lt p (length procs) && writes line procs p b)) (order : IsPermutation all sorted) where
    pub sorted_writes : (p b : ℕ) → owned_by p b sorted ≡ writes line procs p b
    sorted_writes p b = sym (list_any-IsPermutation (owns p b) all sorted order) ∙ owned p b ∙ counted p b

    pub inside_line : (place : ℕ) → LeastShared (λ p b. owned_by p b sorted) place → place < line.bits
    inside_line place shared =
        ltb-true place line.bits (and_parts (ltb place line.bits) (has place (named_left line (slice_get procs shared.first))) (sym (sorted_writes shared.first place) ∙ shared.first_writes)).0

    pub single_writes : ((b : ℕ) → Single (λ p c. owned_by p c sorted) b) → (b p q : ℕ) → writes line procs p b ≡ true → writes line procs q b ≡ true → p ≡ q
    single_writes single b p q u v = single b p q (sorted_writes p b ∙ u) (sorted_writes q b ∙ v)

outcome : (sorted : List OwnedRange) → IsNonDecreasingBy first_place sorted → Outcome (λ p b. owned_by p b sorted) (sweep 0 0 sorted)
outcome sorted h = swept_all sorted (sorted_from sorted h)

pub least_shared : (sorted : List OwnedRange) (place : ℕ) → IsNonDecreasingBy first_place sorted → sweep 0 0 sorted ≡ Some place → LeastShared (λ p b. owned_by p b sorted) place
least_shared sorted place h e = subst (λ (o : Option ℕ). Outcome (λ p b. owned_by p b sorted) o) e (outcome sorted h)

pub none_shared : (sorted : List OwnedRange) → IsNonDecreasingBy first_place sorted → sweep 0 0 sorted ≡ None → (b : ℕ) → Single (λ p c. owned_by p c sorted) b
none_shared sorted h e = subst (λ (o : Option ℕ). Outcome (λ p b. owned_by p b sorted) o) e (outcome sorted h)
