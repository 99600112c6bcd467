-- That the table tells truly which imports answer by their arguments alone, both ways.
use Rattle.std.specs.Prelude.{◌≡◌, ◌↔◌, ℕ, zero, suc, ◌+◌, ◌%◌, ◌^◌, IsTrue, List, [], ◌∷◌, map, replicate, slice_index, slice_index_or}
use Rattle.std.proofs.Common.{refl, arith, ap}
use Rattle.dpi_host.specs.HostMachine.{IsByArgs}
use Rattle.dpi_lib.specs.Library.{Import, alone, stateful, is_alone, answered, state_after, imports, import_at, library_answer, library_after, library_by_args, next_of, sum_of, cell_of, with_next, with_sum, with_cell}

-- an import whose answer ignores the state and which keeps it
pub record IsAlone (i : Import) : Type 0 where
  pub ignores : (s t : List ℕ) (a b : ℕ) → answered i s a b ≡ answered i t a b
  pub keeps : (s : List ℕ) (a b : ℕ) → state_after i s a b ≡ s

is_told : (i : Import) → IsTrue (is_alone i) → IsAlone i
is_told (alone f) told = record { ignores = λ s t a b. refl; keeps = λ s a b. refl }
is_told (stateful f g) told = cc

-- such an import keeps the state
pub state_after_alone : (i : Import) → IsTrue (is_alone i) → (s : List ℕ) (a b : ℕ) → state_after i s a b ≡ s
state_after_alone i told = (is_told i told).keeps

-- each of the five others tells two states of the library apart, or changes one

abbrev zeros : List ℕ
zeros = replicate 18 0

not_next : IsAlone (stateful (λ s a b. (next_of s + 1) % 2 ^ 64) (λ s a b. with_next s ((next_of s + 1) % 2 ^ 64))) → ⊥
not_next is = let one : ◌≡◌ {A = ℕ} 1 2 = is.ignores zeros (with_next zeros 1) 0 0 in omega arith

not_put : IsAlone (stateful (λ s a b. 0) (λ s a b. with_sum s ((sum_of s + a) % 2 ^ 64))) → ⊥
not_put is = let one : ◌≡◌ {A = ℕ} 1 0 = ap sum_of (is.keeps zeros 1 0) in omega arith

not_sum : IsAlone (stateful (λ s a b. sum_of s) (λ s a b. s)) → ⊥
not_sum is = let one : ◌≡◌ {A = ℕ} 1 0 = is.ignores (with_sum zeros 1) zeros 0 0 in omega arith

not_peek : IsAlone (stateful (λ s i b. cell_of s i) (λ s i b. s)) → ⊥
not_peek is = let one : ◌≡◌ {A = ℕ} 1 0 = is.ignores (with_cell zeros 0 1) zeros 0 0 in omega arith

not_poke : IsAlone (stateful (λ s i v. cell_of s i) with_cell) → ⊥
not_poke is = let one : ◌≡◌ {A = ℕ} 1 0 = is.ignores (with_cell zeros 0 1) zeros 0 0 in omega arith

-- none of these imports is alone but those that are told
abbrev AllTold : List Import → Type 0
AllTold [] = Unit {0}
AllTold (i ∷ is) = (IsAlone i → IsTrue (is_alone i)) × AllTold is

all_told : (xs : List Import) (last : Import) → AllTold xs → (IsAlone last → IsTrue (is_alone last)) → (id : ℕ) → IsAlone (slice_index_or xs id last) → IsTrue (is_alone (slice_index_or xs id last))
all_told [] last told here id is = here is
all_told (x ∷ xs) last told here zero is = told.0 is
all_told (x ∷ xs) last told here (suc id) is = all_told xs last told.1 here id is

told_at : (id : ℕ) → IsAlone (import_at id) → IsTrue (is_alone (import_at id))
unfolding import_at imports
told_at id is =
    all_told (map (λ row. row.1) imports) (alone (λ a b. 0))
    (λ is. refl, (λ is. refl, (λ is. refl, (λ is. refl, (λ is. refl, (λ is. refl, (λ is. refl, (λ is. absurd (not_next is), (λ is. absurd (not_put is), (λ is. absurd (not_sum is), (λ is. absurd (not_peek is), (λ is. absurd (not_poke is), tt))))))))))))
    (λ is. refl) id is

-- an import is told as by arguments alone exactly where its answer ignores the state and it keeps it
pub library_lawful : (fixed : List (List ℕ)) (id : ℕ) → IsTrue (library_by_args id) ↔ IsByArgs library_answer library_after fixed id
library_lawful fixed id = (
  (λ told. let is : IsAlone (import_at id) = is_told (import_at id) told in record {
    ignores = λ s t args. is.ignores s t (slice_index args 0) (slice_index args 1);
    keeps = λ s args. is.keeps s (slice_index args 0) (slice_index args 1);
  }),
  (λ is. told_at id record {
    ignores = λ s t a b. is.ignores s t (a ∷ b ∷ []);
    keeps = λ s a b. is.keeps s (a ∷ b ∷ []);
  }),
)
